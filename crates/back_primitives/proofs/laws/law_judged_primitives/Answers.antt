use Rattle.back_primitives.proofs.Judging.{judged_law}
use Rattle.back_primitives.proofs.laws.law_judged_primitives.Goals as goal

pub returns : goal.returns
returns c = judged_law
