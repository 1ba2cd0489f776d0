-- The law of reading is a lemma.
use Rattle.eval_machine.proofs.KeptLaw.{law_of_reading}
use Rattle.eval_machine.proofs.run_laws.law_reading.Goals as goal

pub returns : goal.returns
returns c = law_of_reading
