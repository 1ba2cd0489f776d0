-- The functions from one on are noted.
use Rattle.std.proofs.Common.{drop}
use Rattle.lang_rows.specs.Numbered.{AreNumbered}
use Rattle.lang_rows.proofs.named.rows_by_numbers.Given as goal

abbrev pub invariant-loop-at : goal.invariant-loop-at
invariant-loop-at l = AreNumbered l.names (drop l.at l.functions) l.rows
