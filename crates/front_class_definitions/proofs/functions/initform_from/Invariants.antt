-- It is left to see what the rest says.
use Rattle.std.proofs.Common.{◌≡◌, ◌+◌, drop}
use Rattle.front_profile.specs.ClassRows.{initform_from}
use Rattle.front_class_definitions.specs.Functions.{view_functions}
use Rattle.front_class_definitions.proofs.functions.initform_from.Given as goal

abbrev pub invariant-loop-at : goal.invariant-loop-at
invariant-loop-at l = initform_from (l.first + l.at) (view_functions (drop l.at l.functions)) ≡ initform_from l.first (view_functions l.functions)
