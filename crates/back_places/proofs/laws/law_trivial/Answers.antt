use Rattle.back_places.proofs.OwnSlots.{law_of_own_slots}
use Rattle.back_places.proofs.laws.law_trivial.Goals as goal

pub returns : goal.returns
returns c = law_of_own_slots
