-- It is left to see what the rest says.
use Rattle.std.proofs.Common.{◌≡◌, drop}
use Rattle.std.specs.List.{list_any}
use Rattle.lang_dispatch.specs.Methods.{is_same}
use Rattle.front_definitions.proofs.methods.some_has_head.Given as goal

abbrev pub invariant-loop-method : goal.invariant-loop-method
invariant-loop-method l =
    list_any (λ m. is_same (record { qualifier = l.head.qualifier; classes = l.head.classes; procedure = 0 }) m) (drop l.method-index l.generic.methods)
    ≡ list_any (λ m. is_same (record { qualifier = l.head.qualifier; classes = l.head.classes; procedure = 0 }) m) l.generic.methods
