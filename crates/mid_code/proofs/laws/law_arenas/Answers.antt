use Rattle.mid_code.proofs.Levels.{law_of_arenas}
use Rattle.mid_code.proofs.laws.law_arenas.Goals as goal

pub returns : goal.returns
returns c = law_of_arenas
