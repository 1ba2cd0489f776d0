use Rattle.back_levels.proofs.Laid.{right_programs_law}
use Rattle.back_levels.proofs.laws.law_right_programs.Goals as goal

pub returns : goal.returns
returns c = right_programs_law
