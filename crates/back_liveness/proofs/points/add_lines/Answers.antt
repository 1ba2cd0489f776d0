use Rattle.std.proofs.Common.{◌≡◌, ◌+◌, ℕ, length, Some, arith}
use Rattle.std.specs.Prelude.{slice_get}
use borrow.Author.Count.{below_more}
use Rattle.back_liveness.specs.Liveness.{IsCovered}
use Rattle.back_liveness.specs.Points.{IsPoint}
use Rattle.back_liveness.proofs.Tight.{ends_on}
use Rattle.back_liveness.proofs.points.add_lines.Goals as goal

pub loop-line-preserved : goal.loop-line-preserved
loop-line-preserved c = record {
  points = record {
    reads = λ v line s count below e a.
        let P : ℕ → Type 0 = λ k. slice_get c.args.steps.now k ≡ Some s → IsCovered c.add_line.new.hulls v k in
        below_more P c.loop-line.line
        (λ k h there. c.add_line.ensures.kept v k (c.loop-line.invariant.points.reads v k s (omega arith) h there a))
        (λ there. c.add_line.ensures.reads v s (omega arith) there a)
        line below e;
    written = λ v line s count below e a.
        let P : ℕ → Type 0 = λ k. slice_get c.args.steps.now k ≡ Some s → IsCovered c.add_line.new.hulls v (k + 1) in
        below_more P c.loop-line.line
        (λ k h there. c.add_line.ensures.kept v (k + 1) (c.loop-line.invariant.points.written v k s (omega arith) h there a))
        (λ there. c.add_line.ensures.written v s (omega arith) there a)
        line below e;
  };
  ends = c.add_line.ensures.ends (length c.args.steps.now) (omega arith) c.loop-line.invariant.ends;
  only = λ v x. ends_on c.args.hulls.now c.loop-line.hulls c.add_line.new.hulls v x (IsPoint c.args.steps.now v x) (c.loop-line.invariant.only v x) (c.add_line.ensures.only v x);
}
