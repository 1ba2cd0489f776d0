-- One procedure more.
use Rattle.std.proofs.Common.{◌+◌, ◌*◌, ◌^◌, ◌<◌, ◌≤◌, arith}
use Rattle.back_laying.specs.Fits.{IsSmall}
use Rattle.back_laying.specs.TooLarge.{IsLarge}
use Rattle.back_laying.proofs.Large.{some_mapped}
use Rattle.back_laying.proofs.Lists.{all_more}
use Rattle.back_laying.proofs.chains.all_small.Goals as goal

pub loop-at-preserved : goal.loop-at-preserved
loop-at-preserved c =
    let small : c.in-Some.procedure.now < 2 ^ 28 = omega (arith, c.if-procedure-ge-MOST_PROCEDURES.false) in
    all_more IsSmall c.args.procedures.now c.loop-at.at c.in-Some.procedure.now c.in-Some.ensures small c.loop-at.invariant

pub returns-then-procedure-ge-MOST_PROCEDURES-clause-too_large : goal.returns-then-procedure-ge-MOST_PROCEDURES-clause-too_large
returns-then-procedure-ge-MOST_PROCEDURES-clause-too_large c =
    λ e kind.
    let large : 2 ^ 31 ≤ 8 * c.in-Some.procedure.now + kind = omega (arith, c.if-procedure-ge-MOST_PROCEDURES.true) in
    some_mapped IsLarge (λ p. 8 * p + kind) c.args.procedures.now c.loop-at.at c.in-Some.procedure.now c.in-Some.ensures large
