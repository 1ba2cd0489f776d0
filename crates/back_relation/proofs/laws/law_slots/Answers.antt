use Rattle.back_relation.proofs.Leaves.{slots_law}
use Rattle.back_relation.proofs.laws.law_slots.Goals as goal

pub returns : goal.returns
returns c = slots_law
