use Rattle.lang_taken.proofs.Once.{law_of_one_datum}
use Rattle.lang_taken.proofs.laws.law_one_datum.Goals as goal

pub returns : goal.returns
returns c = law_of_one_datum
