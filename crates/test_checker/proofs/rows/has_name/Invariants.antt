-- None of the functions so far has the name.
use Rattle.std.proofs.Common.{◌≡◌, drop}
use Rattle.std.specs.List.{list_any}
use Rattle.lang_meaning.specs.Facts.{same_name}
use Rattle.test_checker.proofs.rows.has_name.Given as goal

abbrev pub invariant-loop-other : goal.invariant-loop-other
invariant-loop-other l = list_any (same_name l.function) (drop l.other-index l.functions) ≡ list_any (same_name l.function) l.functions
