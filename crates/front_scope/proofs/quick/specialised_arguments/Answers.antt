-- An argument more.
use Rattle.std.proofs.Common.{ap, arith}
use Rattle.front_scope.specs.Below.{one_if}
use Rattle.front_scope.proofs.CellBounds.{specialised_more}
use Rattle.front_scope.proofs.quick.specialised_arguments.Goals.{then-is_specialised, else-is_specialised}
use Rattle.front_scope.proofs.quick.specialised_arguments.Goals as goal

pub loop-argument-preserved : goal.loop-argument-preserved
loop-argument-preserved c = elim c.if-is_specialised.branch [
  | then-is_specialised w ↦ record {
    few = omega (arith, c.loop-argument.invariant.few, w.count-is);
    counted =
        specialised_more c.args.generic.now c.loop-argument.argument _ c.loop-argument.count c.if-is_specialised.count c.is_specialised.result
        c.loop-argument-test.true c.is_specialised.ensures (omega (arith, w.count-is, ap one_if w.if-is_specialised.true)) c.loop-argument.invariant.counted;
  }
  | else-is_specialised w ↦ record {
    few = omega (arith, c.loop-argument.invariant.few, w.count-is);
    counted =
        specialised_more c.args.generic.now c.loop-argument.argument _ c.loop-argument.count c.if-is_specialised.count c.is_specialised.result
        c.loop-argument-test.true c.is_specialised.ensures (omega (arith, w.count-is, ap one_if w.if-is_specialised.false)) c.loop-argument.invariant.counted;
  }
]
