-- What was found stands in front of what the rest gives.
use Rattle.std.proofs.Common.{◌≡◌, ◌++◌, drop}
use Rattle.std.specs.Prelude.{flat_map}
use Rattle.front_profile.specs.ClassRows.{slot_function}
use Rattle.front_class_definitions.specs.Functions.{view_functions}
use Rattle.front_class_definitions.proofs.functions.slot_functions.Given as goal

abbrev pub invariant-loop-function : goal.invariant-loop-function
invariant-loop-function l = l.found ++ flat_map slot_function (view_functions (drop l.function-index l.functions)) ≡ flat_map slot_function (view_functions l.functions)
