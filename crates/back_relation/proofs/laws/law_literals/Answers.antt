use Rattle.back_relation.proofs.Leaves.{literals_law}
use Rattle.back_relation.proofs.laws.law_literals.Goals as goal

pub returns : goal.returns
returns c = literals_law
