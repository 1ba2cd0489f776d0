use Rattle.lang_library_laws.proofs.Equal.{law_of_equal}
use Rattle.lang_library_laws.proofs.laws.law_equal.Goals as goal

pub returns : goal.returns
returns c = law_of_equal
