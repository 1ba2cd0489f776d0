use Rattle.std.proofs.Common.{ℕ, ◌<◌, arith, subst, length}
use Rattle.std.specs.Prelude.{slice_index}
use borrow.Author.Count.{below_more}
use Rattle.back_liveness.specs.Liveness.{IsCovered}
use Rattle.back_liveness.proofs.Lists.{any_index}
use Rattle.back_liveness.proofs.Tight.{ends_added}
use Rattle.back_liveness.proofs.points.add_reads.Goals as goal

pub loop-register-preserved : goal.loop-register-preserved
loop-register-preserved c = record {
  kept = λ v k h. c.add_point.ensures.kept v k (c.loop-register.invariant.kept v k h);
  added =
      let P : ℕ → Type 0 = λ j. slice_index c.args.reads.now j < length c.add_point.new.hulls
      → IsCovered c.add_point.new.hulls (slice_index c.args.reads.now j) c.args.line in
      below_more P c.loop-register.register-index
      (λ j h below. c.add_point.ensures.kept (slice_index c.args.reads.now j) c.args.line (c.loop-register.invariant.added j h (omega arith)))
      (λ below. c.add_point.ensures.added (omega arith));
  only = λ v x.
      ends_added c.args.hulls.now c.loop-register.hulls c.add_point.new.hulls v x c.args.line c.args.reads.now c.loop-register.register-index (omega arith)
      (c.loop-register.invariant.only v x) (c.add_point.ensures.only v x);
  ends = λ n h all. c.add_point.ensures.ends n h (c.loop-register.invariant.ends n h all);
}

pub returns-clause-added : goal.returns-clause-added
returns-clause-added c v l h =
    let f = any_index v c.args.reads.now h in
    let P : ℕ → Type 0 = λ k. k < length c.loop-register.hulls → IsCovered c.loop-register.hulls k c.args.line in
    subst P f.2 (c.loop-register.invariant.added f.0 (omega arith)) (omega arith)
