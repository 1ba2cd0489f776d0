-- Those that were seen are counted.
use Rattle.std.proofs.Common.{◌≡◌, ◌≤◌, ◌+◌, length, drop}
use Rattle.std.specs.List.{filter_map}
use Rattle.front_profile.specs.ClassRows.{initform_in}
use Rattle.front_syntax.specs.ClassDefinitions.{view_slot_options}
use Rattle.front_class_definitions.proofs.slots.initform_count.Given as goal

abbrev pub invariant-loop-option : goal.invariant-loop-option
invariant-loop-option l =
    record {
      few : l.count ≤ l.option-index;
      counted : l.count + length (filter_map initform_in (view_slot_options (drop l.option-index l.options))) ≡ length (filter_map initform_in (view_slot_options l.options));
    }
