-- Each item is counted, and is smaller than its list.
use Rattle.std.proofs.Common.{arith}
use Rattle.base.specs.bridge.Counted.{one_more}
use Rattle.back_lowering.specs.Mentions.{mentions}
use Rattle.back_lowering.proofs.Sizes.{flat_in_smaller, clause_in_smaller, binding_in_smaller, dynamic_in_smaller}
use Rattle.back_procedures.specs.Mentioned.{clause_mentions, value_mentions, dynamic_mentions}
use Rattle.back_procedures.proofs.mentions.+mentions.Goals as goal

pub list_mentions-loop-at-preserved : goal.list_mentions-loop-at-preserved
list_mentions-loop-at-preserved t c = one_more mentions c.args.list.now 0 c.loop-at.at c.in-Some.form.now _ _ _ c.in-Some.ensures c.mentions.ensures c.saturating_add-total.ensures c.loop-at.invariant

pub clause_list_mentions-loop-at-preserved : goal.clause_list_mentions-loop-at-preserved
clause_list_mentions-loop-at-preserved t c = one_more clause_mentions c.args.list.now 0 c.loop-at.at c.in-Some.clause.now _ _ _ c.in-Some.ensures c.clause_mentions.ensures c.saturating_add-total.ensures c.loop-at.invariant

pub value_list_mentions-loop-at-preserved : goal.value_list_mentions-loop-at-preserved
value_list_mentions-loop-at-preserved t c = one_more value_mentions c.args.list.now 0 c.loop-at.at c.in-Some.binding.now _ _ _ c.in-Some.ensures c.mentions.ensures c.saturating_add-total.ensures c.loop-at.invariant

pub dynamic_list_mentions-loop-at-preserved : goal.dynamic_list_mentions-loop-at-preserved
dynamic_list_mentions-loop-at-preserved t c = one_more dynamic_mentions c.args.list.now 0 c.loop-at.at c.in-Some.binding.now _ _ _ c.in-Some.ensures c.mentions.ensures c.saturating_add-total.ensures c.loop-at.invariant

pub list_mentions-mentions-requires : goal.list_mentions-mentions-requires
list_mentions-mentions-requires t c = omega (arith, flat_in_smaller c.args.list.now c.loop-at.at c.in-Some.form.now c.in-Some.ensures)

pub clause_list_mentions-clause_mentions-requires : goal.clause_list_mentions-clause_mentions-requires
clause_list_mentions-clause_mentions-requires t c = omega (arith, clause_in_smaller c.args.list.now c.loop-at.at c.in-Some.clause.now c.in-Some.ensures)

pub value_list_mentions-mentions-requires : goal.value_list_mentions-mentions-requires
value_list_mentions-mentions-requires t c = omega (arith, binding_in_smaller c.args.list.now c.loop-at.at c.in-Some.binding.now c.in-Some.ensures)

pub dynamic_list_mentions-mentions-requires : goal.dynamic_list_mentions-mentions-requires
dynamic_list_mentions-mentions-requires t c = omega (arith, dynamic_in_smaller c.args.list.now c.loop-at.at c.in-Some.binding.now c.in-Some.ensures)
