use Rattle.lang_library_laws.proofs.Append.{law_of_append}
use Rattle.lang_library_laws.proofs.laws.law_append.Goals as goal

pub returns : goal.returns
returns c = law_of_append
