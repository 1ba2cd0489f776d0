use Rattle.mid_arena.proofs.Running.{in_two_parts}
use Rattle.back_relation.proofs.laws.law_parts.Goals as goal

pub returns : goal.returns
returns c = in_two_parts
