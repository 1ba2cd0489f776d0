use Rattle.back_emit.proofs.Passed.{stored_more}
use Rattle.back_emit.proofs.passing.put_stored.Goals as goal

pub loop-i-preserved : goal.loop-i-preserved
loop-i-preserved c =
    stored_more _ _ _ _ _ _ _ _ _ _ c.in_ok-put_argument_word.ensures c.place_in_reach-place.ensures.is c.loop-i.invariant c.in-Some.ensures
