use Rattle.back_levels.proofs.Mains.{mains_law}
use Rattle.back_levels.proofs.laws.law_mains.Goals as goal

pub returns : goal.returns
returns c = mains_law
