use Rattle.lang_taken.proofs.Once.{law_of_either}
use Rattle.lang_taken.proofs.laws.law_either.Goals as goal

pub returns : goal.returns
returns c = law_of_either
