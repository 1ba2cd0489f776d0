use Rattle.back_calling.proofs.Levels.{levels_there_law}
use Rattle.back_calling.proofs.laws.law_levels_there.Goals as goal

pub returns : goal.returns
returns c = levels_there_law
