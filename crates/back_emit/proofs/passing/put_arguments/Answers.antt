use Rattle.back_emit.proofs.Passed.{argument_more}
use Rattle.back_emit.proofs.passing.put_arguments.Goals as goal

pub loop-i-preserved : goal.loop-i-preserved
loop-i-preserved c =
    argument_more _ _ _ _ _ _ _ _ _ _ c.in_ok-put_argument.ensures c.place_in_reach-place.ensures.is c.loop-i.invariant c.in-Some.ensures
