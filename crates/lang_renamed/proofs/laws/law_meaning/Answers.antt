-- The law is the lemma.
use Rattle.lang_renamed.proofs.Levels.{law_of_meaning}
use Rattle.lang_renamed.proofs.laws.law_meaning.Goals as goal

pub returns : goal.returns
returns c = law_of_meaning
