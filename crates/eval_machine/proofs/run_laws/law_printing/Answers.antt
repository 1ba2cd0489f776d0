-- The law of printing is a lemma.
use Rattle.eval_machine.proofs.KeptLaw.{law_of_printing}
use Rattle.eval_machine.proofs.run_laws.law_printing.Goals as goal

pub returns : goal.returns
returns c = law_of_printing
