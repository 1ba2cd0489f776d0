-- It is left to see what the rest says.
use Rattle.std.proofs.Common.{◌≡◌, drop}
use Rattle.std.specs.List.{list_any}
use Rattle.front_profile.specs.ClassRows.{is_wrong_option}
use Rattle.front_syntax.specs.ClassDefinitions.{view_slot_options}
use Rattle.front_class_definitions.proofs.slots.some_wrong.Given as goal

abbrev pub invariant-loop-option : goal.invariant-loop-option
invariant-loop-option l = list_any is_wrong_option (view_slot_options (drop l.option-index l.options)) ≡ list_any is_wrong_option (view_slot_options l.options)
