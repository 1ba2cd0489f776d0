-- The names of the slots so far.
use Rattle.std.proofs.Common.{◌≡◌, take}
use Rattle.lang_classes.specs.InheritedSlots.{each_first, names_of}
use Rattle.lang_classes.proofs.slots.slot_names.Given as goal

abbrev pub invariant-loop-slot : goal.invariant-loop-slot
invariant-loop-slot l = l.names ≡ each_first (names_of (take l.slot-index l.said))
