use Rattle.back_layout.proofs.Words.{law_of_words}
use Rattle.back_layout.proofs.laws.law_words.Goals as goal

pub returns : goal.returns
returns c = law_of_words
