-- None of the classes so far clashes with a later one.
use Rattle.std.proofs.Common.{◌≡◌, drop}
use Rattle.lang_meaning.specs.Lookup.{all_differ}
use Rattle.lang_classes.specs.InheritedPrecedence.{clash}
use Rattle.lang_classes.proofs.line.all_go_together.Given as goal

abbrev pub invariant-loop-at : goal.invariant-loop-at
invariant-loop-at l = all_differ (clash l.rows) (drop l.at l.supers) ≡ all_differ (clash l.rows) l.supers
