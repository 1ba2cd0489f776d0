-- None of the classes so far clashes.
use Rattle.std.proofs.Common.{◌≡◌, drop}
use Rattle.std.specs.List.{list_any}
use Rattle.lang_classes.specs.InheritedPrecedence.{clash}
use Rattle.lang_classes.proofs.line.clashes.Given as goal

abbrev pub invariant-loop-other : goal.invariant-loop-other
invariant-loop-other l = list_any (clash l.rows l.one) (drop l.other-index l.others) ≡ list_any (clash l.rows l.one) l.others
