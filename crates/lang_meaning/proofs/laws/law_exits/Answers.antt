use Rattle.lang_meaning.proofs.Levels.{law_of_exits}
use Rattle.lang_meaning.proofs.laws.law_exits.Goals as goal

pub returns : goal.returns
returns c = law_of_exits
