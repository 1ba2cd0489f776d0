-- The primitives see the program's classes.
use Rattle.eval_state.proofs.Givens.{fitted}
use Rattle.eval_state.proofs.given.Given.instance_words.Goals as goal

pub returns : goal.returns
returns c names g = c.instance_words.ensures names _ (fitted names c.args.self.now g)
