use Rattle.std.proofs.Common.{ℕ, ◌<◌, arith, subst, length}
use Rattle.std.specs.Prelude.{slice_index}
use borrow.Author.Count.{below_more}
use Rattle.back_liveness.specs.Heads.{IsBetween}
use Rattle.back_liveness.proofs.Lists.{any_index}
use Rattle.back_liveness.proofs.Tight.{same_or_more}
use Rattle.back_liveness.proofs.heads.add_sources.Goals as goal

pub loop-to-preserved : goal.loop-to-preserved
loop-to-preserved c = record {
  kept = λ k t h. c.add_source.ensures.kept k t (c.loop-to.invariant.kept k t h);
  added =
      let P : ℕ → Type 0 = λ j. slice_index c.args.aside.now j < length c.add_source.new.earliest
      → IsBetween c.add_source.new.earliest c.add_source.new.latest c.args.line (slice_index c.args.aside.now j) in
      below_more P c.loop-to.to-index
      (λ j h below. c.add_source.ensures.kept c.args.line (slice_index c.args.aside.now j) (c.loop-to.invariant.added j h (omega arith)))
      (λ below. c.add_source.ensures.added (omega arith));
  within = λ n h all. c.add_source.ensures.within n h (c.loop-to.invariant.within n h all);
  first = λ t.
      same_or_more c.args.earliest.now c.loop-to.earliest c.add_source.new.earliest t c.args.line c.args.aside.now c.loop-to.to-index (omega arith)
      (c.loop-to.invariant.first t) (c.add_source.ensures.first t);
  last = λ t.
      same_or_more c.args.latest.now c.loop-to.latest c.add_source.new.latest t c.args.line c.args.aside.now c.loop-to.to-index (omega arith)
      (c.loop-to.invariant.last t) (c.add_source.ensures.last t);
}

pub returns-clause-added : goal.returns-clause-added
returns-clause-added c t h l =
    let f = any_index t c.args.aside.now h in
    let P : ℕ → Type 0 = λ k. k < length c.loop-to.earliest → IsBetween c.loop-to.earliest c.loop-to.latest c.args.line k in
    subst P f.2 (c.loop-to.invariant.added f.0 (omega arith)) (omega arith)
