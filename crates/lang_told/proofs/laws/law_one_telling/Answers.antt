use Rattle.lang_told.proofs.Once.{law_of_one_telling}
use Rattle.lang_told.proofs.laws.law_one_telling.Goals as goal

pub returns : goal.returns
returns c = law_of_one_telling
