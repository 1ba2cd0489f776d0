use Rattle.mid_arena.proofs.OwnWords.{own_words}
use Rattle.mid_arena.proofs.laws.law_own_words.Goals as goal

pub returns : goal.returns
returns c = own_words
