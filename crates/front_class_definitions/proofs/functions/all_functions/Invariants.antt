-- What was found stands in front of what the rest gives.
use Rattle.std.proofs.Common.{◌≡◌, ◌++◌, drop}
use Rattle.front_profile.specs.ClassRows.{all_functions}
use Rattle.front_syntax.specs.ClassDefinitions.{view_slots}
use Rattle.front_class_definitions.specs.Functions.{view_functions}
use Rattle.front_class_definitions.proofs.functions.all_functions.Given as goal

abbrev pub invariant-loop-slot : goal.invariant-loop-slot
invariant-loop-slot l = view_functions l.functions ++ all_functions (view_slots (drop l.slot-index l.slots)) ≡ all_functions (view_slots l.slots)
