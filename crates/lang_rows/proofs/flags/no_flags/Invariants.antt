-- No flag so far is set.
use Rattle.std.proofs.Common.{false}
use Rattle.lang_rows.proofs.Filling.{AreAll}
use Rattle.lang_rows.proofs.flags.no_flags.Given as goal

abbrev pub invariant-loop-number : goal.invariant-loop-number
invariant-loop-number l = AreAll false l._number l.flags
