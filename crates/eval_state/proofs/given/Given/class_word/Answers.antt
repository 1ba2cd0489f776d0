-- The initial heap is that of the program.
use Rattle.eval_state.proofs.Givens.{layout}
use Rattle.eval_state.proofs.given.Given.class_word.Goals as goal

pub returns : goal.returns
returns c names g = c.class_word.ensures names _ (layout names c.args.self.now g)
