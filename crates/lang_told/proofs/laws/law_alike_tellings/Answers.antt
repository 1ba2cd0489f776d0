use Rattle.lang_told.proofs.Alike.{law_of_alike_tellings}
use Rattle.lang_told.proofs.laws.law_alike_tellings.Goals as goal

pub returns : goal.returns
returns c = law_of_alike_tellings
