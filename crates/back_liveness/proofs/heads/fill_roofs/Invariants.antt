use Rattle.std.proofs.Common.{◌≤◌, ◌<◌, ℕ}
use Rattle.std.specs.Prelude.{slice_index}
use Rattle.back_liveness.proofs.heads.fill_roofs.Given as goal

abbrev pub invariant-loop-t : goal.invariant-loop-t
invariant-loop-t l = record {
  greatest : (k : ℕ) → k < l.t → slice_index l.latest k ≤ l.greatest;
  above : (t k : ℕ) → t < l.t → k ≤ t → slice_index l.latest k ≤ slice_index l.roofs t;
}
