use Rattle.mid_code.proofs.Levels.{law_of_levels}
use Rattle.mid_code.proofs.laws.law_levels.Goals as goal

pub returns : goal.returns
returns c = law_of_levels
