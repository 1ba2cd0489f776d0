-- One register more.
use Rattle.std.proofs.Common.{◌-◌, arith}
use Rattle.back_procedures.proofs.Counting.{counted_step}
use Rattle.back_procedures.proofs.frames.counted_once.Goals as goal

pub loop-at-preserved : goal.loop-at-preserved
loop-at-preserved c =
    counted_step c.args.list.now c.loop-at.at (c.loop-at.at - 1) c.in-Some.register.now c.args.enough c.loop-at.count c.newly_marked-count.result
    c.loop-at.flags c.newly_marked-count.new.flags
    (omega (arith, c.loop-at-test.true)) c.in-Some.ensures c.requires c.loop-at.invariant c.newly_marked-count.ensures.marked c.newly_marked-count.ensures.one
