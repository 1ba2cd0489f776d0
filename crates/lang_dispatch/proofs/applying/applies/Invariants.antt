-- The rest applies where the whole does.
use Rattle.std.proofs.Common.{◌≡◌, drop}
use Rattle.lang_meaning.specs.Classes.{applies}
use Rattle.lang_dispatch.specs.OfClasses.{with_classes}
use Rattle.lang_dispatch.proofs.applying.applies.Given as goal

abbrev pub invariant-loop-at : goal.invariant-loop-at
invariant-loop-at l =
    applies (with_classes l.classes) (drop l.at l.tuple) (drop l.at l.method) ≡ applies (with_classes l.classes) l.tuple l.method
