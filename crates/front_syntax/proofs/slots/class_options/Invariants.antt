-- The options that were seen.
use Rattle.std.proofs.Common.{◌≡◌, take}
use Rattle.front_profile.specs.ClassShapes.{class_options}
use Rattle.front_syntax.specs.ClassDefinitions.{view_class_options}
use Rattle.front_syntax.proofs.slots.class_options.Given as goal

abbrev pub invariant-loop-item : goal.invariant-loop-item
invariant-loop-item l = view_class_options l.options ≡ class_options l.names (take l.item-index l.items)
