-- The last initform of the slots so far.
use Rattle.std.proofs.Common.{◌≡◌, take}
use Rattle.lang_classes.specs.InheritedSlots.{initform_of}
use Rattle.lang_classes.proofs.slots.initform_of.Given as goal

abbrev pub invariant-loop-slot : goal.invariant-loop-slot
invariant-loop-slot l = l.found ≡ initform_of l.name (take l.slot-index l.said)
