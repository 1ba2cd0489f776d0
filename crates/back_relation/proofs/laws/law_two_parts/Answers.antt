use Rattle.back_relation.proofs.Combined.{two_parts_law}
use Rattle.back_relation.proofs.laws.law_two_parts.Goals as goal

pub returns : goal.returns
returns c = two_parts_law
