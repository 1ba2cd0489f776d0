-- Those that were seen are raised, and with the others that are left no fewer.
use Rattle.std.proofs.Common.{drop}
use Rattle.front_cells.proofs.Counting.{AreRaisedBut}
use Rattle.front_cells.proofs.groups.raise_all.Given as goal

abbrev pub invariant-loop-class : goal.invariant-loop-class
invariant-loop-class l = AreRaisedBut (drop l.class-index l.classes) l.classes l.initial.counts l.counts
