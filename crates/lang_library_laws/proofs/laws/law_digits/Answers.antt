use Rattle.lang_library_laws.proofs.Digits.{law_of_digits}
use Rattle.lang_library_laws.proofs.laws.law_digits.Goals as goal

pub returns : goal.returns
returns c = law_of_digits
