use Rattle.lang_derived.proofs.OneStep.{step_stays}
use Rattle.lang_derived.proofs.laws.law_step_stays.Goals as goal

pub returns : goal.returns
returns c = step_stays
