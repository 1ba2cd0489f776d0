-- The law is the lemma.
use Rattle.lang_renamed.proofs.Evaluating.{law_of_same_runs}
use Rattle.lang_renamed.proofs.laws.law_same_runs.Goals as goal

pub returns : goal.returns
returns c = law_of_same_runs
