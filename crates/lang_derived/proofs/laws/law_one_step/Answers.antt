use Rattle.lang_derived.proofs.OneStep.{one_step}
use Rattle.lang_derived.proofs.laws.law_one_step.Goals as goal

pub returns : goal.returns
returns c = one_step
