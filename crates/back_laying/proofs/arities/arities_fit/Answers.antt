-- One procedure more.
use Rattle.std.proofs.Common.{◌^◌, ◌<◌, ◌≤◌, length, arith}
use Rattle.flat_language.specs.declared.program.FlatProcedure.{FlatProcedure}
use Rattle.back_words.specs.Words.{arity_of}
use Rattle.back_laying.specs.TooLarge.{IsLarge}
use Rattle.back_laying.proofs.Large.{some_mapped}
use Rattle.back_laying.proofs.Lists.{all_more}
use Rattle.back_laying.proofs.arities.arities_fit.Goals as goal

pub loop-at-preserved : goal.loop-at-preserved
loop-at-preserved c =
    let few : length c.in-Some.procedure.now.required < 2 ^ 30 = omega (arith, c.len.ensures, c.if-len-ge-MOST_REQUIRED.false) in
    all_more (λ (q : FlatProcedure). length q.required < 2 ^ 30) c.args.procedures.now c.loop-at.at c.in-Some.procedure.now c.in-Some.ensures few c.loop-at.invariant

pub returns-then-len-ge-MOST_REQUIRED-clause-too_large : goal.returns-then-len-ge-MOST_REQUIRED-clause-too_large
returns-then-len-ge-MOST_REQUIRED-clause-too_large c =
    λ e.
    let large : 2 ^ 31 ≤ arity_of c.in-Some.procedure.now = omega (arith, c.len.ensures, c.if-len-ge-MOST_REQUIRED.true) in
    some_mapped IsLarge arity_of c.args.procedures.now c.loop-at.at c.in-Some.procedure.now c.in-Some.ensures large
