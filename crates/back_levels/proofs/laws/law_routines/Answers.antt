use Rattle.back_levels.proofs.Routines.{routines_law}
use Rattle.back_levels.proofs.laws.law_routines.Goals as goal

pub returns : goal.returns
returns c = routines_law
