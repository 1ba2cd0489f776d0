-- Each item is counted, and is smaller than its list.
use Rattle.std.proofs.Common.{arith}
use Rattle.base.specs.bridge.Counted.{one_more}
use Rattle.flat_language.specs.FlatNodes.{nodes}
use Rattle.eval_state.specs.Sizes.{clause_nodes, value_nodes, dynamic_nodes}
use Rattle.eval_state.proofs.NodesInside.{form_smaller, clause_smaller, value_smaller, dynamic_smaller}
use Rattle.eval_state.proofs.body_nodes.+nodes.Goals as goal

pub list_nodes-loop-at-preserved : goal.list_nodes-loop-at-preserved
list_nodes-loop-at-preserved t c = one_more nodes c.args.list.now 0 c.loop-at.at c.in-Some.form.now _ _ _ c.in-Some.ensures c.form_nodes.ensures c.saturating_add-total.ensures c.loop-at.invariant

pub clause_list_nodes-loop-at-preserved : goal.clause_list_nodes-loop-at-preserved
clause_list_nodes-loop-at-preserved t c = one_more clause_nodes c.args.list.now 0 c.loop-at.at c.in-Some.clause.now _ _ _ c.in-Some.ensures c.clause_nodes.ensures c.saturating_add-total.ensures c.loop-at.invariant

pub value_list_nodes-loop-at-preserved : goal.value_list_nodes-loop-at-preserved
value_list_nodes-loop-at-preserved t c = one_more value_nodes c.args.list.now 0 c.loop-at.at c.in-Some.binding.now _ _ _ c.in-Some.ensures c.form_nodes.ensures c.saturating_add-total.ensures c.loop-at.invariant

pub dynamic_list_nodes-loop-at-preserved : goal.dynamic_list_nodes-loop-at-preserved
dynamic_list_nodes-loop-at-preserved t c = one_more dynamic_nodes c.args.list.now 0 c.loop-at.at c.in-Some.binding.now _ _ _ c.in-Some.ensures c.form_nodes.ensures c.saturating_add-total.ensures c.loop-at.invariant

pub list_nodes-form_nodes-requires : goal.list_nodes-form_nodes-requires
list_nodes-form_nodes-requires t c = omega (arith, form_smaller c.args.list.now c.loop-at.at c.in-Some.form.now c.in-Some.ensures)

pub clause_list_nodes-clause_nodes-requires : goal.clause_list_nodes-clause_nodes-requires
clause_list_nodes-clause_nodes-requires t c = omega (arith, clause_smaller c.args.list.now c.loop-at.at c.in-Some.clause.now c.in-Some.ensures)

pub value_list_nodes-form_nodes-requires : goal.value_list_nodes-form_nodes-requires
value_list_nodes-form_nodes-requires t c = omega (arith, value_smaller c.args.list.now c.loop-at.at c.in-Some.binding.now c.in-Some.ensures)

pub dynamic_list_nodes-form_nodes-requires : goal.dynamic_list_nodes-form_nodes-requires
dynamic_list_nodes-form_nodes-requires t c = omega (arith, dynamic_smaller c.args.list.now c.loop-at.at c.in-Some.binding.now c.in-Some.ensures)
