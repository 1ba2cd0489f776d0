use Rattle.back_words.proofs.Start.{beginnings}
use Rattle.back_words.proofs.laws.law_beginnings.Goals as goal

pub returns : goal.returns
returns c = beginnings
