use Rattle.lang_library_laws.proofs.NReverse.{law_of_nreverse}
use Rattle.lang_library_laws.proofs.laws.law_nreverse.Goals as goal

pub returns : goal.returns
returns c = law_of_nreverse
