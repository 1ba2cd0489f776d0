-- The law is the lemma.
use Rattle.lang_renamed.proofs.Evaluating.{renamed_runs}
use Rattle.lang_renamed.proofs.laws.law_renamed_runs.Goals as goal

pub returns : goal.returns
returns c = renamed_runs
