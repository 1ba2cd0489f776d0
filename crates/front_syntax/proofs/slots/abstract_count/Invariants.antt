-- Those that were seen are counted.
use Rattle.std.proofs.Common.{◌≡◌, ◌≤◌, ◌+◌, length, drop}
use Rattle.std.specs.List.{filter_map}
use Rattle.front_profile.specs.ClassShapes.{abstract_in}
use Rattle.front_syntax.specs.ClassDefinitions.{view_class_options}
use Rattle.front_syntax.proofs.slots.abstract_count.Given as goal

abbrev pub invariant-loop-option : goal.invariant-loop-option
invariant-loop-option l =
    record {
      few : l.count ≤ l.option-index;
      counted : l.count + length (filter_map abstract_in (view_class_options (drop l.option-index l.options))) ≡ length (filter_map abstract_in (view_class_options l.options));
    }
