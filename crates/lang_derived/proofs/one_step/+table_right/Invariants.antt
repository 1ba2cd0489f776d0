use Rattle.std.proofs.Common.{length}
use Rattle.lang_derived.proofs.one_step.+table_right.Given as goal

abbrev pub decreases-table_right : goal.decreases-table_right
decreases-table_right l = length l.groups.now
