-- No fewer than the cells with the classes that were seen, and no flag is set.
use Rattle.std.proofs.Common.{[], ◌≤◌, min}
use Rattle.front_cells.specs.Flags.{AreFlags}
use Rattle.front_cells.proofs.Fewer.{cells_to}
use Rattle.front_cells.proofs.generic_count.with_classes.Given as goal

abbrev pub invariant-loop-class : goal.invariant-loop-class
invariant-loop-class l = record {
  cleared : AreFlags [] l.flags;
  most : min (cells_to l.classes l.generic l.class) 262145 ≤ l.most;
}
