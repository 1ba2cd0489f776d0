-- A segment more is made.
use Rattle.front_elaboration.proofs.MakingGroups.{segments_go_on}
use Rattle.front_elaboration.proofs.elaborate.lists.segment_list.Goals as goal

pub loop-length-preserved : goal.loop-length-preserved
loop-length-preserved c =
    segments_go_on c.loop-length.list c.push.new.self c.sequence.result
    c.args.lengths.now c.as_slice-length-items.result.now c.loop-length.length-index _
    c.loop-length.queue c.take_some.new.self c.in_ok-take_some.field-0 _
    c.as_slice-length-items.ensures c.loop-length-test.true c.in_ok-push.ensures.ok c.sequence.ensures
    c.in_ok-take_some.ensures.list c.in_ok-take_some.ensures.rest c.loop-length.invariant
