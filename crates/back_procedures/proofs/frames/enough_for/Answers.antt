-- One register more.
use Rattle.std.proofs.Common.{◌-◌, arith}
use Rattle.back_procedures.proofs.Counting.{enough_step}
use Rattle.back_procedures.proofs.frames.enough_for.Goals as goal

pub loop-at-preserved : goal.loop-at-preserved
loop-at-preserved c =
    enough_step c.args.list.now c.loop-at.at (c.loop-at.at - 1) c.in-Some.register.now c.loop-at.enough c.greater-enough.result
    (omega (arith, c.loop-at-test.true)) c.in-Some.ensures c.loop-at.invariant c.greater-enough.ensures
