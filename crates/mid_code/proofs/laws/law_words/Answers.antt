use Rattle.mid_code.proofs.Bounds.{law_of_words}
use Rattle.mid_code.proofs.laws.law_words.Goals as goal

pub returns : goal.returns
returns c = law_of_words
