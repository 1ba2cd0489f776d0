use Rattle.mid_arena.proofs.OwnWords.{new_own_words}
use Rattle.mid_arena.proofs.laws.law_new_own_words.Goals as goal

pub returns : goal.returns
returns c = new_own_words
