use Rattle.lang_reached.proofs.Whole.{law_of_whole}
use Rattle.lang_reached.proofs.laws.law_whole.Goals as goal

pub returns : goal.returns
returns c = law_of_whole
