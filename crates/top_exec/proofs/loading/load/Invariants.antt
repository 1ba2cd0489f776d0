use Rattle.std.proofs.Common.{◌≡◌, ◌≤◌, ◌-◌, length, List, ℕ}
use Rattle.top_exec.proofs.Loaded.{Loading}
use Rattle.top_exec.proofs.loading.load.Given as goal

abbrev pub invariant-loop-piece : goal.invariant-loop-piece
invariant-loop-piece g l =
    Loading l.limit (g.F.Shelf.holds l.initial.shelf l.name) l.text
    × ((other : List ℕ) → g.F.Shelf.holds l.shelf other ≡ g.F.Shelf.holds l.initial.shelf other)
    × (g.F.Shelf.faults l.initial.shelf ≤ g.F.Shelf.faults l.shelf)

abbrev pub decreases-loop-piece : goal.decreases-loop-piece
decreases-loop-piece g l = l.limit - length l.text
