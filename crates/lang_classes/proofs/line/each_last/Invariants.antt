-- What is kept of the classes so far, and of those that are left.
use Rattle.std.proofs.Common.{◌≡◌, ◌++◌, drop}
use Rattle.lang_classes.specs.InheritedPrecedence.{each_last}
use Rattle.lang_classes.proofs.line.each_last.Given as goal

abbrev pub invariant-loop-at : goal.invariant-loop-at
invariant-loop-at l = l.kept ++ each_last (drop l.at l.classes) ≡ each_last l.classes
