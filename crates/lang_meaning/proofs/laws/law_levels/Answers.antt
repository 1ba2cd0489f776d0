use Rattle.lang_meaning.proofs.Levels.{law_of_levels}
use Rattle.lang_meaning.proofs.laws.law_levels.Goals as goal

pub returns : goal.returns
returns c = law_of_levels
