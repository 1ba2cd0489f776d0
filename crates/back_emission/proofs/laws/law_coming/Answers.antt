use Rattle.back_emission.proofs.Coming.{and_on}
use Rattle.back_emission.proofs.laws.law_coming.Goals as goal

pub returns : goal.returns
returns c = λ a b m m' m''. and_on
