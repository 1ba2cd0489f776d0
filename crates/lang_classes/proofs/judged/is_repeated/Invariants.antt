-- None of the slots so far has the name.
use Rattle.std.proofs.Common.{◌≡◌, drop}
use Rattle.lang_classes.specs.InheritedSlots.{has_name}
use Rattle.lang_classes.specs.Given.{spec_names}
use Rattle.lang_classes.proofs.judged.is_repeated.Given as goal

abbrev pub invariant-loop-slot : goal.invariant-loop-slot
invariant-loop-slot l = has_name l.name (spec_names (drop l.slot-index l.earlier)) ≡ has_name l.name (spec_names l.earlier)
