-- What was counted, with the classes that are left, is no fewer.
use Rattle.std.proofs.Common.{drop}
use Rattle.front_scope.proofs.ClassCounts.{AreBelowBut}
use Rattle.front_scope.proofs.below.count_below.Given as goal

abbrev pub invariant-loop-row : goal.invariant-loop-row
invariant-loop-row l = AreBelowBut (drop l.row-index l.classes.rows) l.classes.rows l.counts
