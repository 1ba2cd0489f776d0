use Rattle.std.proofs.Common.{◌≡◌, true, ℕ, ◌<◌, ◌≤◌, length}
use Rattle.std.specs.Prelude.{◌==◌, slice_index}
use Rattle.std.specs.List.{list_any}
use Rattle.back_liveness.specs.Liveness.{IsCovered}
use Rattle.back_liveness.specs.Points.{EndBy, HasEndOr}
use Rattle.back_liveness.proofs.points.add_reads.Given as goal

abbrev pub invariant-loop-register : goal.invariant-loop-register
invariant-loop-register l = record {
  kept : (v k : ℕ) → IsCovered l.initial.hulls v k → IsCovered l.hulls v k;
  added :
      (j : ℕ) → j < l.register-index → slice_index l.reads j < length l.hulls → IsCovered l.hulls (slice_index l.reads j) l.line;
  only : (v x : ℕ) → HasEndOr l.initial.hulls l.hulls v x ((list_any (λ r. r == v) l.reads ≡ true) × (x ≡ l.line));
  ends : (n : ℕ) → l.line ≤ n → EndBy n l.initial.hulls → EndBy n l.hulls;
}
