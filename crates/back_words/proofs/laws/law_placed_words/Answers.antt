use Rattle.back_words.proofs.Law.{placed_words}
use Rattle.back_words.proofs.laws.law_placed_words.Goals as goal

pub returns : goal.returns
returns c = placed_words
