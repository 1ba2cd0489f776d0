use Rattle.lang_meaning.proofs.Levels.{law_of_growth}
use Rattle.lang_meaning.proofs.laws.law_growth.Goals as goal

pub returns : goal.returns
returns c = law_of_growth
