-- The law is the lemma.
use Rattle.lang_renamed.proofs.Evaluating.{law_of_evaluations}
use Rattle.lang_renamed.proofs.laws.law_evaluations.Goals as goal

pub returns : goal.returns
returns c = law_of_evaluations
