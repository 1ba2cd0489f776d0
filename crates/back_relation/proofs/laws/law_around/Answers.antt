use Rattle.back_relation.proofs.Combined.{around_law}
use Rattle.back_relation.proofs.laws.law_around.Goals as goal

pub returns : goal.returns
returns c = around_law
