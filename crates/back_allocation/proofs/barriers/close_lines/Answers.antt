use Rattle.back_allocation.specs.LineSteps.{landings_in}
use Rattle.back_allocation.proofs.MoreBarriers.{barriers_more}
use Rattle.back_allocation.proofs.barriers.close_lines.Goals as goal

pub loop-line-preserved : goal.loop-line-preserved
loop-line-preserved c = record {
  barriers =
      barriers_more c.args.lines.now (landings_in c.args.landings.now) c.loop-line.line c.loop-line.barriers c.close_line.new.barriers
      c.loop-line.invariant.barriers c.close_line.ensures.kept c.close_line.ensures.call c.close_line.ensures.landed;
  plain = λ p. c.close_line.ensures.plain (c.loop-line.invariant.plain p);
  only = λ p o. c.close_line.ensures.only (c.loop-line.invariant.plain p) (c.loop-line.invariant.only p o);
}
