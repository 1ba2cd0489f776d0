use Rattle.std.proofs.Common.{length}
use Rattle.lang_derived.proofs.one_step.+first_right.Given as goal

abbrev pub decreases-first_right : goal.decreases-first_right
decreases-first_right l = length l.rows.now
