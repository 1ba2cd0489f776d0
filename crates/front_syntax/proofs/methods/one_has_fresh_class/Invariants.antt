-- It is left to see what the rest says.
use Rattle.std.proofs.Common.{◌≡◌, drop}
use Rattle.std.specs.List.{list_any}
use Rattle.lang_derived.specs.Asked.{list_items}
use Rattle.front_profile.specs.MethodShapes.{has_fresh_class}
use Rattle.front_syntax.proofs.methods.one_has_fresh_class.Given as goal

abbrev pub invariant-loop-item : goal.invariant-loop-item
invariant-loop-item l = list_any (λ d. has_fresh_class (list_items d)) (drop l.item-index l.items) ≡ list_any (λ d. has_fresh_class (list_items d)) l.items
