-- The law of units is a lemma.
use Rattle.eval_machine.proofs.KeptLaw.{law_of_units}
use Rattle.eval_machine.proofs.run_laws.law_units.Goals as goal

pub returns : goal.returns
returns c = law_of_units
