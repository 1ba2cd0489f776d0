-- It is left to see what the rest says.
use Rattle.std.proofs.Common.{◌≡◌, drop}
use Rattle.std.specs.List.{list_any}
use Rattle.lang_classes.specs.InheritedSlots.{same_name}
use Rattle.front_class_definitions.specs.Functions.{view_uses}
use Rattle.front_class_definitions.proofs.classes.has_use.Given as goal

abbrev pub invariant-loop-other : goal.invariant-loop-other
invariant-loop-other l = list_any (λ other. same_name l.one.name other.name) (view_uses (drop l.other-index l.uses)) ≡ list_any (λ other. same_name l.one.name other.name) (view_uses l.uses)
