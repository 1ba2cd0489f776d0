use Rattle.lang_library_laws.proofs.Alike.{law_of_alike}
use Rattle.lang_library_laws.proofs.laws.law_alike.Goals as goal

pub returns : goal.returns
returns c = law_of_alike
