use Rattle.std.proofs.Common.{ℕ, length}
use Rattle.back_liveness.specs.Points.{ArePoints, EndBy, IsPoint, HasEndOr}
use Rattle.back_liveness.proofs.points.add_lines.Given as goal

abbrev pub invariant-loop-line : goal.invariant-loop-line
invariant-loop-line l = record {
  points : ArePoints l.steps l.line l.hulls;
  ends : EndBy (length l.steps) l.hulls;
  only : (v x : ℕ) → HasEndOr l.initial.hulls l.hulls v x (IsPoint l.steps v x);
}
