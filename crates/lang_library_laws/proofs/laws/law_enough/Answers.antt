use Rattle.lang_library_laws.proofs.Enough.{law_of_enough, law_of_all_printed}
use Rattle.lang_library_laws.proofs.laws.law_enough.Goals as goal

pub returns-clause-of_value : goal.returns-clause-of_value
returns-clause-of_value c = law_of_enough

pub returns-clause-of_text : goal.returns-clause-of_text
returns-clause-of_text c = law_of_all_printed
