-- Those that were seen are estimated.
use Rattle.front_cells.proofs.Estimating.{AreEstimatesTo}
use Rattle.front_cells.proofs.count.sharpen_all.Given as goal

abbrev pub invariant-loop-at : goal.invariant-loop-at
invariant-loop-at l = AreEstimatesTo l.at l.classes l.generics l.sharp
