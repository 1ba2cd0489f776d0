-- The law is the lemma.
use Rattle.lang_renamed.proofs.Levels.{law_of_tasks}
use Rattle.lang_renamed.proofs.laws.law_tasks.Goals as goal

pub returns : goal.returns
returns c = law_of_tasks
