-- The law of the machine is a lemma.
use Rattle.eval_machine.proofs.Law.{law_of_machine}
use Rattle.eval_machine.proofs.laws.law_machine.Goals as goal

pub returns : goal.returns
returns c = law_of_machine
