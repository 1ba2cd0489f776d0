use Rattle.mid_arena.proofs.OwnWords.{growth}
use Rattle.mid_arena.proofs.laws.law_growth.Goals as goal

pub returns : goal.returns
returns c = growth
