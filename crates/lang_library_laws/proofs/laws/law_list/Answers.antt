use Rattle.lang_library_laws.proofs.ListOf.{law_of_list}
use Rattle.lang_library_laws.proofs.laws.law_list.Goals as goal

pub returns : goal.returns
returns c = law_of_list
