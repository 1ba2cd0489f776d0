use Rattle.lang_library_laws.proofs.Reverse.{law_of_reverse}
use Rattle.lang_library_laws.proofs.laws.law_reverse.Goals as goal

pub returns : goal.returns
returns c = law_of_reverse
