-- Nothing so far is noted.
use Rattle.std.proofs.Common.{None}
use Rattle.lang_rows.proofs.Filling.{AreAll}
use Rattle.lang_rows.proofs.named.no_rows.Given as goal

abbrev pub invariant-loop-number : goal.invariant-loop-number
invariant-loop-number l = AreAll None l._number l.rows
