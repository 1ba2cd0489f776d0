-- What was found stands in front of what the rest gives.
use Rattle.std.proofs.Common.{◌≡◌, ◌++◌, length, drop}
use Rattle.front_profile.specs.ClassRows.{slot_specs}
use Rattle.front_syntax.specs.ClassDefinitions.{view_slots}
use Rattle.front_class_definitions.proofs.slots.slot_specs.Given as goal

abbrev pub invariant-loop-slot : goal.invariant-loop-slot
invariant-loop-slot l = l.specs ++ slot_specs l.first (view_slots (drop l.slot-index l.slots)) ≡ slot_specs (length l.here.tables.now.procedures) (view_slots l.slots)
