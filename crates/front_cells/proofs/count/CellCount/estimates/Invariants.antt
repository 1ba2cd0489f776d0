-- Those that were seen are estimated, and no flag is set.
use Rattle.std.proofs.Common.{[]}
use Rattle.front_cells.specs.Flags.{AreFlags}
use Rattle.front_cells.proofs.Estimating.{AreEstimatesTo}
use Rattle.front_cells.proofs.count.CellCount.estimates.Given as goal

abbrev pub invariant-loop-at : goal.invariant-loop-at
invariant-loop-at l = record {
  cleared : AreFlags [] l.flags;
  estimated : AreEstimatesTo l.at l.classes l.generics l.found;
}
