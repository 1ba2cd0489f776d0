-- The law of steps is a lemma.
use Rattle.eval_machine.proofs.Law.{law_of_steps}
use Rattle.eval_machine.proofs.laws.law_steps.Goals as goal

pub returns : goal.returns
returns c = law_of_steps
