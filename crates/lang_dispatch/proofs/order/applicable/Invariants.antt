-- The last methods so far, ordered.
use Rattle.std.proofs.Common.{◌≡◌, ◌+◌, ℕ, drop, filter, length}
use Rattle.lang_meaning.specs.Classes.{applies, more_specific, ordered}
use Rattle.lang_dispatch.specs.OfClasses.{with_classes}
use Rattle.lang_dispatch.specs.Chains.{ArePicked}
use Rattle.lang_dispatch.proofs.order.applicable.Given as goal

abbrev pub invariant-loop-step : goal.invariant-loop-step
invariant-loop-step l =
    (k : ℕ) → l.step + k ≡ length l.generic.methods
    → ArePicked l.generic.methods l.order.items
    (ordered (λ m n. more_specific (with_classes l.classes) l.tuple m.classes n.classes)
    (filter (λ m. applies (with_classes l.classes) l.tuple m.classes) (drop k l.generic.methods)))
