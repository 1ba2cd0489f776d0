use Rattle.lang_library_laws.proofs.Length.{law_of_length}
use Rattle.lang_library_laws.proofs.laws.law_length.Goals as goal

pub returns : goal.returns
returns c = law_of_length
