-- The parts of a datum stand inside fewer lists.
use Rattle.std.proofs.Common.{◌+◌, ◌*◌}
use Rattle.test_rows.proofs.shown.+shown.Given as goal

abbrev pub decreases-show : goal.decreases-show
decreases-show l = 3 * l.depth

abbrev pub decreases-show_kind : goal.decreases-show_kind
decreases-show_kind l = 3 * l.depth + 2

abbrev pub decreases-show_all : goal.decreases-show_all
decreases-show_all l = 3 * l.depth + 1

abbrev pub decreases-show_tail : goal.decreases-show_tail
decreases-show_tail l = 3 * l.depth + 1
