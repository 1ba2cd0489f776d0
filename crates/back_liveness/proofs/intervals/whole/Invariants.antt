use Rattle.std.proofs.Common.{◌≡◌, ◌<◌, ◌≤◌, ℕ, true, length}
use Rattle.back_liveness.specs.Barriers.{Crosses, barrier_at}
use Rattle.back_liveness.specs.Liveness.{is_held, IsCovered, OnlyCrossed}
use Rattle.back_liveness.specs.Points.{is_told, EndBy}
use Rattle.back_liveness.proofs.intervals.whole.Given as goal

abbrev pub invariant-loop-register : goal.invariant-loop-register
invariant-loop-register l = record {
  count : length l.intervals ≡ l.register;
  count_parts : length l.parts ≡ l.register;
  count_crossed : length l.crossed ≡ l.register;
  whole : (v line : ℕ) → v < l.register → line ≤ length l.steps → is_held l.parts v line ≡ true;
  inside : (v line : ℕ) → is_held l.parts v line ≡ true → IsCovered l.intervals v line;
  told : (v line : ℕ) → v < l.register → line ≤ length l.steps → Crosses (barrier_at l.barriers line) v → is_told l.crossed v ≡ true;
  ends : EndBy (length l.steps) l.intervals;
  only : OnlyCrossed l.barriers l.intervals l.crossed;
}
