use Rattle.std.proofs.Common.{◌≡◌, ℕ, length, Some, arith}
use Rattle.std.specs.Prelude.{slice_get}
use borrow.Author.Count.{below_more}
use Rattle.back_liveness.specs.Heads.{IsBetween}
use Rattle.back_liveness.proofs.Tight.{sources_more}
use Rattle.back_liveness.proofs.heads.add_lines.Goals as goal

pub loop-line-preserved : goal.loop-line-preserved
loop-line-preserved c = record {
  heads = record {
    earliest_count = omega arith;
    latest_count = omega arith;
    own = λ t h. c.add_line.ensures.kept t t (c.loop-line.invariant.heads.own t h);
    sources = λ line t s below e a far.
        let P : ℕ → Type 0 = λ k. slice_get c.args.steps.now k ≡ Some s → IsBetween c.add_line.new.earliest c.add_line.new.latest k t in
        below_more P c.loop-line.line
        (λ k h there. c.add_line.ensures.kept k t (c.loop-line.invariant.heads.sources k t s h there a far))
        (λ there. c.add_line.ensures.added t s there a (omega arith))
        line below e;
    within = λ t. c.add_line.ensures.within (length c.args.steps.now) (omega arith) c.loop-line.invariant.heads.within t;
  };
  sources = λ known.
      sources_more c.args.steps.now c.loop-line.line c.loop-line.earliest c.add_line.new.earliest c.loop-line.latest c.add_line.new.latest
      c.add_line.ensures.first c.add_line.ensures.last (c.loop-line.invariant.sources known);
}
