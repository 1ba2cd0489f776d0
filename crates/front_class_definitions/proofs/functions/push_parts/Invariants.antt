-- What was found stands in front of what the rest gives.
use Rattle.std.proofs.Common.{◌≡◌, ◌++◌, drop}
use Rattle.std.specs.Prelude.{flat_map}
use Rattle.front_profile.specs.ClassRows.{part_of}
use Rattle.front_syntax.specs.ClassDefinitions.{view_slot}
use Rattle.front_class_definitions.specs.Functions.{view_functions}
use Rattle.front_drafts.specs.Views.{view_parts}
use Rattle.front_class_definitions.proofs.functions.push_parts.Given as goal

abbrev pub invariant-loop-function : goal.invariant-loop-function
invariant-loop-function l =
    view_parts l.parts ++ flat_map (part_of (view_slot l.slot)) (view_functions (drop l.function-index l.functions))
    ≡ view_parts l.fn.parts ++ flat_map (part_of (view_slot l.slot)) (view_functions l.functions)
