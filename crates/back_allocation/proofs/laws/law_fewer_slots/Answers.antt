use Rattle.back_allocation.proofs.FewerSlots.{law_of_fewer_slots}
use Rattle.back_allocation.proofs.laws.law_fewer_slots.Goals as goal

pub returns : goal.returns
returns c = law_of_fewer_slots
