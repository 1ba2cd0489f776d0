-- The generic function of the name is looked for.
use Rattle.front_elaboration.proofs.elaborate.classes.add_slot_function.Goals as goal

pub add_accessor-requires : goal.add_accessor-requires
add_accessor-requires c = rw c.generic_named-there.ensures (rw c.in-Method.is at c.requires)
