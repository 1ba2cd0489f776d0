use Rattle.lang_library_laws.proofs.Elt.{law_of_elt_of_list, law_of_elt_of_string, law_of_elt_of_vector}
use Rattle.lang_library_laws.proofs.laws.law_elt.Goals as goal

pub returns-clause-of_list : goal.returns-clause-of_list
returns-clause-of_list c = law_of_elt_of_list

pub returns-clause-of_string : goal.returns-clause-of_string
returns-clause-of_string c = law_of_elt_of_string

pub returns-clause-of_vector : goal.returns-clause-of_vector
returns-clause-of_vector c = law_of_elt_of_vector
