use Rattle.std.proofs.Common.{arith, subst}
use Rattle.std.specs.Prelude.{slice_index}
use borrow.Author.Count.{below_more}
use Rattle.back_liveness.proofs.Lists.{any_index}
use Rattle.back_liveness.specs.Barriers.{Crosses, barrier_at}
use Rattle.back_allocation.proofs.Wanted.{landed_more}
use Rattle.back_allocation.proofs.barriers.close_all.Goals as goal

pub loop-landing-preserved : goal.loop-landing-preserved
loop-landing-preserved c = record {
  kept = λ x v h. c.close_at.ensures.kept x v (c.loop-landing.invariant.kept x v h);
  plain = λ p. c.close_at.ensures.plain (c.loop-landing.invariant.plain p);
  only = λ x v.
      landed_more c.args.landings.now c.loop-landing.landing-index x v c.args.barriers.now c.loop-landing.barriers c.close_at.new.barriers (omega arith)
      (c.loop-landing.invariant.only x v) (c.close_at.ensures.only x v);
  landed = λ j v low.
      below_more (λ k. Crosses (barrier_at c.close_at.new.barriers (slice_index c.args.landings.now k)) v) c.loop-landing.landing-index
      (λ k h. c.close_at.ensures.kept (slice_index c.args.landings.now k) v (c.loop-landing.invariant.landed k v h)) (c.close_at.ensures.closed v) j low;
}

pub returns-clause-landed : goal.returns-clause-landed
returns-clause-landed c t v h =
    let f = any_index t c.args.landings.now h in
    subst (λ k. Crosses (barrier_at c.loop-landing.barriers k) v) f.2 (c.loop-landing.invariant.landed f.0 v (omega arith))
