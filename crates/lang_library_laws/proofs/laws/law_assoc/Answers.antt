use Rattle.lang_library_laws.proofs.Assoc.{law_of_assoc}
use Rattle.lang_library_laws.proofs.laws.law_assoc.Goals as goal

pub returns : goal.returns
returns c = law_of_assoc
