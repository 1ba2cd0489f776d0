-- What the rest says all say.
use Rattle.std.proofs.Common.{◌≡◌, ◌==◌, not, drop}
use Rattle.std.specs.List.{list_any}
use Rattle.lang_dispatch.proofs.groups.is_specialised.Given as goal

abbrev pub invariant-loop-class : goal.invariant-loop-class
invariant-loop-class l = list_any (λ c. not (c == 0)) (drop l.class-index l.column) ≡ list_any (λ c. not (c == 0)) l.column
