-- None of the names so far is it.
use Rattle.std.proofs.Common.{◌≡◌, drop}
use Rattle.lang_classes.specs.InheritedSlots.{has_name}
use Rattle.lang_classes.proofs.slots.has_name.Given as goal

abbrev pub invariant-loop-other : goal.invariant-loop-other
invariant-loop-other l = has_name l.name (drop l.other-index l.names) ≡ has_name l.name l.names
