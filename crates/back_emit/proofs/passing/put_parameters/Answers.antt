use Rattle.std.proofs.Common.{arith}
use Rattle.back_emit.proofs.Passed.{parameter_more}
use Rattle.back_emit.proofs.passing.put_parameters.Goals as goal

pub loop-i-preserved : goal.loop-i-preserved
loop-i-preserved c =
    parameter_more _ _ _ c.args.parameters.now _ _ _ c.in_ok-put_parameter.ensures c.place_in_reach-place.ensures.is (omega arith) c.loop-i.invariant
