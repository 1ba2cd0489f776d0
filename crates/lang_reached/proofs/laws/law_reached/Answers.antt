use Rattle.lang_reached.proofs.Levels.{law_of_reached}
use Rattle.lang_reached.proofs.laws.law_reached.Goals as goal

pub returns : goal.returns
returns c = law_of_reached
