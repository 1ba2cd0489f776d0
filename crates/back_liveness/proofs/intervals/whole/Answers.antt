use Rattle.std.proofs.Common.{arith}
use Rattle.back_liveness.proofs.Covering.{all_cover}
use Rattle.back_liveness.proofs.intervals.whole.Goals as goal

pub returns-clause-covers : goal.returns-clause-covers
returns-clause-covers c =
    all_cover c.args.steps.now c.args.barriers.now c.loop-register.intervals c.loop-register.parts c.loop-register.crossed
    (λ v line h l. c.loop-register.invariant.whole v line (omega (arith, c.loop-register.invariant.count, h)) l) c.loop-register.invariant.inside
    (λ v line h l x. c.loop-register.invariant.told v line (omega (arith, c.loop-register.invariant.count, h)) l x)
