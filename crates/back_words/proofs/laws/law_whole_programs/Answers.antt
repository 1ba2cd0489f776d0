use Rattle.back_words.proofs.Keeping.{forms_asked}
use Rattle.back_words.proofs.Whole.{rows_asked}
use Rattle.back_words.proofs.laws.law_whole_programs.Goals as goal

pub returns : goal.returns
returns c program whole = (rows_asked program whole, forms_asked program whole)
