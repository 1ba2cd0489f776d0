use Rattle.mid_arena.proofs.ValueWords.{value_words}
use Rattle.mid_arena.proofs.laws.law_value_words.Goals as goal

pub returns : goal.returns
returns c = value_words
