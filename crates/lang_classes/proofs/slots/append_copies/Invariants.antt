-- The slots so far stand behind the list.
use Rattle.std.proofs.Common.{◌≡◌, ◌++◌, take}
use Rattle.lang_classes.proofs.slots.append_copies.Given as goal

abbrev pub invariant-loop-slot : goal.invariant-loop-slot
invariant-loop-slot l = l.slots ≡ l.initial.slots ++ take l.slot-index l.more
