-- The law is the lemma.
use Rattle.lang_derived.proofs.Kept.{step_good}
use Rattle.lang_derived.proofs.laws.law_good_steps.Goals as goal

pub returns : goal.returns
returns c = step_good
