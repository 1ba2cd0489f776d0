-- Those that were seen have as many.
use Rattle.std.proofs.Common.{ℕ, ◌<◌}
use Rattle.front_cells.specs.Counts.{HasMethodsOf}
use Rattle.front_cells.proofs.count.CellCount.is_current.Given as goal

abbrev pub invariant-loop-at : goal.invariant-loop-at
invariant-loop-at l = (i : ℕ) → i < l.at → HasMethodsOf i l.generics l.self.generics
