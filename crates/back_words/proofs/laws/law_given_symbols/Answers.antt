use Rattle.back_words.proofs.Symbols.{given_symbols}
use Rattle.back_words.proofs.laws.law_given_symbols.Goals as goal

pub returns : goal.returns
returns c = given_symbols
