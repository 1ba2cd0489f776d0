use Rattle.back_conditions.proofs.TwoWords.{throws_law}
use Rattle.back_conditions.proofs.laws.law_throws.Goals as goal

pub returns : goal.returns
returns c = throws_law
