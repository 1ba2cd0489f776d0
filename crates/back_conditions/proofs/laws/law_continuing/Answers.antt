use Rattle.back_conditions.proofs.TwoWords.{continuing_law}
use Rattle.back_conditions.proofs.laws.law_continuing.Goals as goal

pub returns : goal.returns
returns c = continuing_law
