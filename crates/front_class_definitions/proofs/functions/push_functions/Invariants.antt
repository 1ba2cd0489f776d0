-- What was found stands in front of what the rest gives.
use Rattle.std.proofs.Common.{◌≡◌, ◌++◌, drop}
use Rattle.std.specs.Prelude.{flat_map}
use Rattle.front_profile.specs.ClassRows.{functions_of_option}
use Rattle.front_syntax.specs.ClassDefinitions.{view_slot_options}
use Rattle.front_class_definitions.specs.Functions.{view_functions}
use Rattle.front_class_definitions.proofs.functions.push_functions.Given as goal

abbrev pub invariant-loop-option : goal.invariant-loop-option
invariant-loop-option l =
    view_functions l.functions ++ flat_map functions_of_option (view_slot_options (drop l.option-index l.slot.options))
    ≡ view_functions l.fn.functions ++ flat_map functions_of_option (view_slot_options l.slot.options)
