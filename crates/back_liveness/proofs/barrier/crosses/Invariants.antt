-- No line so far is crossed.
use Rattle.std.proofs.Common.{◌≤◌, ◌<◌, ℕ}
use Rattle.back_liveness.specs.Barriers.{Crosses, barrier_at}
use Rattle.back_liveness.proofs.barrier.crosses.Given as goal

abbrev pub invariant-loop-x : goal.invariant-loop-x
invariant-loop-x l = (k : ℕ) → l.fn.interval.from ≤ k → k < l.x → Crosses (barrier_at l.barriers k) l.register → ⊥
