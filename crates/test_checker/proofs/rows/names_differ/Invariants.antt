-- It is left to see whether the rest differs.
use Rattle.std.proofs.Common.{◌≡◌, length}
use Rattle.lang_meaning.specs.Facts.{same_name}
use Rattle.lang_meaning.specs.Lookup.{all_differ}
use Rattle.test_checker.proofs.rows.names_differ.Given as goal

abbrev pub invariant-loop-left : goal.invariant-loop-left
invariant-loop-left l = all_differ same_name l.left ≡ all_differ same_name l.functions

abbrev pub decreases-loop-left : goal.decreases-loop-left
decreases-loop-left l = length l.left
