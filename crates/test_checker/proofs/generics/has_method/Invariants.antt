-- None of the methods so far is the same.
use Rattle.std.proofs.Common.{◌≡◌, drop}
use Rattle.std.specs.List.{list_any}
use Rattle.lang_meaning.specs.Facts.{same_method}
use Rattle.test_checker.proofs.generics.has_method.Given as goal

abbrev pub invariant-loop-other : goal.invariant-loop-other
invariant-loop-other l = list_any (same_method l.method) (drop l.other-index l.methods) ≡ list_any (same_method l.method) l.methods
