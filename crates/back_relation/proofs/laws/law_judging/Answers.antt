use Rattle.back_relation.proofs.Judging.{judging_law}
use Rattle.back_relation.proofs.laws.law_judging.Goals as goal

pub returns : goal.returns
returns c = judging_law
