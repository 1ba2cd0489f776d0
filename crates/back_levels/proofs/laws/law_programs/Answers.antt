use Rattle.back_levels.proofs.Programs.{programs_law}
use Rattle.back_levels.proofs.laws.law_programs.Goals as goal

pub returns : goal.returns
returns c = programs_law
