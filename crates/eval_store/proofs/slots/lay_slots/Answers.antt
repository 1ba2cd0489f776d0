-- The slots of a class more.
use Rattle.std.proofs.Common.{◌≤◌, length, arith}
use Rattle.eval_store.proofs.Turns.{one_made_at, all_made_at}
use Rattle.eval_store.proofs.slots.lay_slots.Goals as goal

pub loop-at-preserved : goal.loop-at-preserved
loop-at-preserved c = one_made_at c.loop-at.at c.in-Some.ensures c.in_ok-push.ensures.ok c.loop-at.invariant c.in_ok-words.ensures

pub returns : goal.returns
returns c =
    let past : length c.args.classes.now ≤ c.loop-at.at = omega (arith, c.len-at-end.ensures) in
    all_made_at c.loop-at.at past c.loop-at.invariant
