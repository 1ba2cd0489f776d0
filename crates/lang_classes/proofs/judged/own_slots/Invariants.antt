-- The slots so far.
use Rattle.std.proofs.Common.{◌≡◌, take}
use Rattle.lang_classes.specs.InheritedClasses.{slots_given}
use Rattle.lang_classes.specs.Given.{given}
use Rattle.lang_classes.proofs.judged.own_slots.Given as goal

abbrev pub invariant-loop-slot : goal.invariant-loop-slot
invariant-loop-slot l = l.own ≡ slots_given (given (take l.slot-index l.slots))
