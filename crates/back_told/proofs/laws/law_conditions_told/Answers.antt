use Rattle.back_told.proofs.Told.{law_of_conditions_told}
use Rattle.back_told.proofs.laws.law_conditions_told.Goals as goal

pub returns : goal.returns
returns c = law_of_conditions_told c.law_words_left.ensures c.law_alike_tellings.ensures
