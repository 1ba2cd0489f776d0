use Rattle.back_emission.proofs.Private.{lent_apart}
use Rattle.back_emission.proofs.laws.law_lent_words.Goals as goal

pub returns : goal.returns
returns c = lent_apart
