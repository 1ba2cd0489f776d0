-- The slots of the names so far.
use Rattle.std.proofs.Common.{◌≡◌, take}
use Rattle.lang_classes.specs.InheritedSlots.{slots_of}
use Rattle.lang_classes.proofs.slots.slots_of.Given as goal

abbrev pub invariant-loop-name : goal.invariant-loop-name
invariant-loop-name l = l.slots ≡ slots_of l.said (take l.name-index l.names)
