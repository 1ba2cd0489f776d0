-- The initargs of the slots so far.
use Rattle.std.proofs.Common.{◌≡◌, take}
use Rattle.lang_classes.specs.InheritedSlots.{initargs_of}
use Rattle.lang_classes.proofs.slots.initargs_of.Given as goal

abbrev pub invariant-loop-slot : goal.invariant-loop-slot
invariant-loop-slot l = l.names ≡ initargs_of l.name (take l.slot-index l.said)
