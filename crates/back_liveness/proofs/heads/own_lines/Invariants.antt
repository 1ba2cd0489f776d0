use Rattle.std.proofs.Common.{◌≡◌, ℕ, ◌<◌, ◌≤◌, length}
use Rattle.std.specs.Prelude.{slice_index}
use Rattle.back_liveness.proofs.heads.own_lines.Given as goal

abbrev pub invariant-loop-t : goal.invariant-loop-t
invariant-loop-t l =
    (length l.own.items ≡ l.t) × ((k : ℕ) → k < l.t → slice_index l.own.items k ≡ k) × ((k : ℕ) → slice_index l.own.items k ≤ l.last)
