-- It is left to see what the rest says.
use Rattle.std.proofs.Common.{◌≡◌, drop}
use Rattle.std.specs.List.{list_any}
use Rattle.front_profile.specs.ClassRows.{is_lacking}
use Rattle.front_class_definitions.specs.Functions.{view_functions}
use Rattle.front_class_definitions.proofs.functions.some_lacking.Given as goal

abbrev pub invariant-loop-function : goal.invariant-loop-function
invariant-loop-function l = list_any is_lacking (view_functions (drop l.function-index l.functions)) ≡ list_any is_lacking (view_functions l.functions)
