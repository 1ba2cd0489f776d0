use Rattle.back_primitives.proofs.Applying.{procedures_law}
use Rattle.back_primitives.proofs.laws.law_procedures.Goals as goal

pub returns : goal.returns
returns c = procedures_law
