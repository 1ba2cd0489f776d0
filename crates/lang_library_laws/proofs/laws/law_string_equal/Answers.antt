use Rattle.lang_library_laws.proofs.Strings.{law_of_string_equal}
use Rattle.lang_library_laws.proofs.laws.law_string_equal.Goals as goal

pub returns : goal.returns
returns c = law_of_string_equal
