-- A binding more is made, or no form is left for it.
use Rattle.front_elaboration.proofs.MakingGroups.{dynamics_go_on, behind_goes_on, behind_stops}
use Rattle.front_elaboration.proofs.elaborate.lists.dynamic_list.Goals as goal

pub returns-in_default-clause-behind : goal.returns-in_default-clause-behind
returns-in_default-clause-behind c =
    behind_stops _ c.loop-name.queue c.take.new.self _ c.in_default.ensures.0 c.in_default.ensures.1 c.loop-name.invariant.behind

pub loop-name-preserved : goal.loop-name-preserved
loop-name-preserved c = record {
  list = dynamics_go_on c.loop-name.list c.push.new.self c.in-Some.value
      c.args.names.now c.as_slice-name-items.result.now c.loop-name.name-index _ c.loop-name.queue c.take.new.self _
      c.as_slice-name-items.ensures c.loop-name-test.true c.in_ok-push.ensures.ok c.in-Some.ensures c.loop-name.invariant.list;
  behind = behind_goes_on c.in-Some.value
      c.args.names.now c.as_slice-name-items.result.now c.loop-name.name-index (record { 0 = 0 }) c.loop-name.queue c.take.new.self _
      c.as_slice-name-items.ensures c.loop-name-test.true c.in-Some.ensures c.loop-name.invariant.behind;
}
