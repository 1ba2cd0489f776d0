use Rattle.back_levels.proofs.Surroundings.{main_surroundings_law}
use Rattle.back_levels.proofs.laws.law_main_surroundings.Goals as goal

pub returns : goal.returns
returns c = main_surroundings_law
