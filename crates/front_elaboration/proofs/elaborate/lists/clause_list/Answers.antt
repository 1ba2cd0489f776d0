-- A clause more is made.
use Rattle.front_elaboration.proofs.MakingGroups.{clauses_go_on}
use Rattle.front_elaboration.proofs.elaborate.lists.clause_list.Goals as goal

pub loop-length-preserved : goal.loop-length-preserved
loop-length-preserved c =
    clauses_go_on c.loop-length.list c.push.new.self (record { test = c.in-Some.test; body = c.in-Ok.body })
    c.args.lengths.now c.as_slice-length-items.result.now c.loop-length.length-index _
    c.loop-length.queue c.take.new.self c.clause_body.new.queue _
    c.as_slice-length-items.ensures c.loop-length-test.true c.in_ok-push.ensures.ok c.in-Some.ensures
    c.in-Ok.ensures.body c.in-Ok.ensures.behind c.loop-length.invariant
