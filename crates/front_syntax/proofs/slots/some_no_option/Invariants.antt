-- It is left to see what the rest says.
use Rattle.std.proofs.Common.{◌≡◌, drop}
use Rattle.std.specs.List.{list_any}
use Rattle.front_profile.specs.ClassShapes.{is_no_option}
use Rattle.front_syntax.specs.ClassDefinitions.{view_class_options}
use Rattle.front_syntax.proofs.slots.some_no_option.Given as goal

abbrev pub invariant-loop-option : goal.invariant-loop-option
invariant-loop-option l = list_any is_no_option (view_class_options (drop l.option-index l.options)) ≡ list_any is_no_option (view_class_options l.options)
