-- Those passed so far, and the place in the rest.
use Rattle.std.proofs.Common.{◌≡◌, ◌+◌, List, drop}
use Rattle.std.specs.List.{position_or_len}
use Rattle.lang_meaning.specs.declared.program.MethodRow.{MethodRow}
use Rattle.lang_meaning.specs.Classes.{more_specific}
use Rattle.lang_dispatch.specs.OfClasses.{with_classes}
use Rattle.lang_dispatch.specs.Chains.{ArePicked}
use Rattle.lang_dispatch.proofs.order.place_for.Given as goal

abbrev pub invariant-loop-at : goal.invariant-loop-at
invariant-loop-at l =
    (picked : List MethodRow) → ArePicked l.generic.methods l.order.items picked
    → l.at + position_or_len (λ n. more_specific (with_classes l.classes) l.tuple l.method.classes n.classes) (drop l.at picked)
    ≡ position_or_len (λ n. more_specific (with_classes l.classes) l.tuple l.method.classes n.classes) picked
