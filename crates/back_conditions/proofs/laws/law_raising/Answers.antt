use Rattle.back_conditions.proofs.Raising.{raising_law}
use Rattle.back_conditions.proofs.laws.law_raising.Goals as goal

pub returns : goal.returns
returns c = raising_law
