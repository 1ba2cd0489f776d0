use Rattle.back_levels.proofs.MainEnds.{main_ends_law}
use Rattle.back_levels.proofs.laws.law_main_ends.Goals as goal

pub returns : goal.returns
returns c = main_ends_law
