-- What was found stands in front of what the rest gives.
use Rattle.std.proofs.Common.{◌≡◌, ◌++◌, drop}
use Rattle.std.specs.List.{filter_map}
use Rattle.front_profile.specs.ClassRows.{use_of}
use Rattle.front_class_definitions.specs.Functions.{view_functions, view_uses}
use Rattle.front_class_definitions.proofs.functions.uses.Given as goal

abbrev pub invariant-loop-function : goal.invariant-loop-function
invariant-loop-function l = view_uses l.uses ++ filter_map use_of (view_functions (drop l.function-index l.functions)) ≡ filter_map use_of (view_functions l.functions)
