use Rattle.mid_arena.proofs.OwnWords.{new_functions}
use Rattle.mid_arena.proofs.laws.law_new_functions.Goals as goal

pub returns : goal.returns
returns c = new_functions
