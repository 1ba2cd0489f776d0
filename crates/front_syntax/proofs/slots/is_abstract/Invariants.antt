-- It is left to see what the rest says.
use Rattle.std.proofs.Common.{◌≡◌, drop}
use Rattle.front_profile.specs.ClassShapes.{is_abstract}
use Rattle.front_syntax.specs.ClassDefinitions.{view_class_options}
use Rattle.front_syntax.proofs.slots.is_abstract.Given as goal

abbrev pub invariant-loop-option : goal.invariant-loop-option
invariant-loop-option l = is_abstract (view_class_options (drop l.option-index l.options)) ≡ is_abstract (view_class_options l.options)
