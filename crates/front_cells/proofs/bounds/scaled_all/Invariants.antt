-- The numbers of the methods that were seen.
use Rattle.front_cells.proofs.Tupling.{AreScaledTo}
use Rattle.front_cells.proofs.bounds.scaled_all.Given as goal

abbrev pub invariant-loop-at : goal.invariant-loop-at
invariant-loop-at l = AreScaledTo l.at l.generic.methods l.argument l.below l.applied l.more
