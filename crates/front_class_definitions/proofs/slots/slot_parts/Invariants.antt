-- What was found stands in front of what the rest gives, behind the slots that were seen.
use Rattle.std.proofs.Common.{◌≡◌, ◌++◌, [], drop}
use Rattle.lang_classes.specs.InheritedClasses.{inherited_names}
use Rattle.lang_classes.specs.InheritedSlots.{each_first}
use Rattle.front_profile.specs.ClassRows.{known_supers, slot_parts}
use Rattle.front_syntax.specs.ClassDefinitions.{view_slots, view_supers}
use Rattle.front_drafts.specs.Views.{view_parts}
use Rattle.front_class_definitions.proofs.slots.slot_parts.Given as goal

abbrev pub invariant-loop-slot : goal.invariant-loop-slot
invariant-loop-slot l =
    let inherited = inherited_names l.here.tables.now.classes (known_supers l.here.tables.now.classes.rows (view_supers l.supers)) in
    record {
      names : l.names ≡ each_first (inherited ++ l.earlier);
      seen : view_parts l.parts ++ slot_parts inherited l.earlier (view_slots (drop l.slot-index l.slots)) ≡ slot_parts inherited [] (view_slots l.slots);
    }
