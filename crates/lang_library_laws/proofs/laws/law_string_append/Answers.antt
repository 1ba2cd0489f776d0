use Rattle.lang_library_laws.proofs.StringAppend.{law_of_string_append}
use Rattle.lang_library_laws.proofs.laws.law_string_append.Goals as goal

pub returns : goal.returns
returns c = law_of_string_append
