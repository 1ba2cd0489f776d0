use Rattle.std.proofs.Common.{length}
use Rattle.lang_derived.proofs.table.+names_a_row.Given as goal

abbrev pub decreases-names_a_row : goal.decreases-names_a_row
decreases-names_a_row l = length l.rows.now
