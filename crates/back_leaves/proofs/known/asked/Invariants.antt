-- Those that are asked so far stand in front of those that may be asked yet.
use Rattle.std.proofs.Common.{◌≡◌, ◌+◌, ◌++◌, drop}
use Rattle.flat_language.specs.model.View.{forms}
use Rattle.back_lowering.specs.Primitives.{asked_integers}
use Rattle.back_leaves.proofs.known.asked.Given as goal

abbrev pub invariant-loop-i : goal.invariant-loop-i
invariant-loop-i l =
    l.made ++ asked_integers l.at l.literals (l.d + l.i) (forms (drop l.i l.list)) ≡ asked_integers l.at l.literals (l.d + l.from) (forms (drop l.from l.list))
