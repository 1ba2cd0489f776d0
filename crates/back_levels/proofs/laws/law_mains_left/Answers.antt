use Rattle.back_levels.proofs.MainsLeft.{mains_left_law}
use Rattle.back_levels.proofs.laws.law_mains_left.Goals as goal

pub returns : goal.returns
returns c = mains_left_law
