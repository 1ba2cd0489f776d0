-- The lists of the classes so far.
use Rattle.std.proofs.Common.{◌≡◌, take}
use Rattle.lang_classes.specs.InheritedPrecedence.{joined}
use Rattle.lang_classes.proofs.line.joined.Given as goal

abbrev pub invariant-loop-class : goal.invariant-loop-class
invariant-loop-class l = l.lines ≡ joined l.rows (take l.class-index l.supers)
