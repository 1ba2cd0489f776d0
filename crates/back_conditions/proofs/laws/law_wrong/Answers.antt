use Rattle.back_conditions.proofs.Wrong.{wrong_law}
use Rattle.back_conditions.proofs.laws.law_wrong.Goals as goal

pub returns : goal.returns
returns c = wrong_law
