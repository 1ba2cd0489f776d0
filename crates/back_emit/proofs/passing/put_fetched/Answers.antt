use Rattle.back_emit.proofs.Passed.{fetched_more}
use Rattle.back_emit.proofs.passing.put_fetched.Goals as goal

pub loop-i-preserved : goal.loop-i-preserved
loop-i-preserved c = fetched_more _ _ _ _ _ c.in_ok-put_fetch.ensures c.loop-i.invariant
