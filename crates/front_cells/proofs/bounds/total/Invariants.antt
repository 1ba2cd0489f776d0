-- What was added, with the numbers that are left, is no less.
use Rattle.std.proofs.Common.{◌≤◌, ◌+◌, drop}
use Rattle.std.specs.List.{sum_by}
use Rattle.front_cells.proofs.bounds.total.Given as goal

abbrev pub invariant-loop-count : goal.invariant-loop-count
invariant-loop-count l = sum_by (λ count. count) l.counts ≤ l.sum + sum_by (λ count. count) (drop l.count-index l.counts)
