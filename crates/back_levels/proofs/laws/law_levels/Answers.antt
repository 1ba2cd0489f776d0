use Rattle.back_levels.proofs.Levels.{levels_law}
use Rattle.back_levels.proofs.laws.law_levels.Goals as goal

pub returns : goal.returns
returns c = levels_law
