use Rattle.std.proofs.Common.{◌≤◌, ◌<◌, ◌+◌, ℕ, length}
use Rattle.std.specs.Prelude.{slice_index}
use Rattle.back_liveness.proofs.heads.fill_floors.Given as goal

abbrev pub invariant-loop-done : goal.invariant-loop-done
invariant-loop-done l = record {
  least : (k : ℕ) → l.count ≤ k + l.done → k < length l.earliest → l.least ≤ slice_index l.earliest k;
  below : (t k : ℕ) → l.count ≤ t + l.done → t ≤ k → k < length l.earliest → slice_index l.floors t ≤ slice_index l.earliest k;
}
