use Rattle.std.proofs.Common.{length}
use Rattle.lang_derived.proofs.table.+names_some_row.Given as goal

abbrev pub decreases-names_some_row : goal.decreases-names_some_row
decreases-names_some_row l = length l.groups.now
