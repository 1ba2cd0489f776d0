-- What was found stands in front of what the rest gives.
use Rattle.std.proofs.Common.{◌≡◌, ◌++◌, drop}
use Rattle.std.specs.List.{filter_map}
use Rattle.front_profile.specs.ClassRows.{initarg_in}
use Rattle.front_syntax.specs.ClassDefinitions.{view_slot_options}
use Rattle.front_class_definitions.proofs.slots.initargs.Given as goal

abbrev pub invariant-loop-option : goal.invariant-loop-option
invariant-loop-option l = l.names ++ filter_map initarg_in (view_slot_options (drop l.option-index l.options)) ≡ filter_map initarg_in (view_slot_options l.options)
