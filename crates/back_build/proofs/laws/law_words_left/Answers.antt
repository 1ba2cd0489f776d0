use Rattle.back_build.proofs.WordsLeft.{law_of_words_left}
use Rattle.back_build.proofs.laws.law_words_left.Goals as goal

pub returns : goal.returns
returns c = law_of_words_left
