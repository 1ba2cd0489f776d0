use Rattle.back_relation.proofs.Levels.{loops_law}
use Rattle.back_relation.proofs.laws.law_loops.Goals as goal

pub returns : goal.returns
returns c = loops_law
