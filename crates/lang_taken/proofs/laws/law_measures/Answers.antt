use Rattle.lang_taken.proofs.Measures.{law_of_measures}
use Rattle.lang_taken.proofs.laws.law_measures.Goals as goal

pub returns : goal.returns
returns c = law_of_measures
