use Rattle.back_calling.proofs.Levels.{judged_levels_law}
use Rattle.back_calling.proofs.laws.law_judged_levels.Goals as goal

pub returns : goal.returns
returns c = judged_levels_law
