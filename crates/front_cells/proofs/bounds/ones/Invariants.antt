-- So many are there.
use Rattle.front_cells.specs.Tuples.{AreOnes}
use Rattle.front_cells.proofs.bounds.ones.Given as goal

abbrev pub invariant-loop-method : goal.invariant-loop-method
invariant-loop-method l = AreOnes l._method l.ones
