-- The names that are left are still to come.
use Rattle.std.proofs.Common.{◌≡◌, drop}
use Rattle.lang_classes.specs.InheritedSlots.{with_names}
use Rattle.lang_classes.proofs.slots.push_all_new.Given as goal

abbrev pub invariant-loop-name : goal.invariant-loop-name
invariant-loop-name l = with_names (drop l.name-index l.more) l.names ≡ with_names l.more l.initial.names
