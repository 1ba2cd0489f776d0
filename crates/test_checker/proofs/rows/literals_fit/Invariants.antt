-- All literals so far fit.
use Rattle.std.proofs.Common.{◌≡◌, drop}
use Rattle.std.specs.List.{list_all}
use Rattle.lang_meaning.specs.Facts.{literal_fits}
use Rattle.test_checker.proofs.rows.literals_fit.Given as goal

abbrev pub invariant-loop-row : goal.invariant-loop-row
invariant-loop-row l = list_all (literal_fits l.rows) (drop l.row-index l.rows.literals) ≡ list_all (literal_fits l.rows) l.rows.literals
