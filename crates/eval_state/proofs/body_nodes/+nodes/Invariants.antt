-- The sizes of the forms fall; a loop has the nodes of what is passed.
use Rattle.std.proofs.Common.{◌+◌, ◌*◌}
use Rattle.base.specs.bridge.Counted.{IsCounted}
use Rattle.flat_language.specs.FlatForm.{form_size, forms_size, clauses_size, bindings_size, dynamics_size}
use Rattle.flat_language.specs.model.View.{forms, clauses_of, bindings_of, dynamics_of}
use Rattle.flat_language.specs.FlatNodes.{nodes}
use Rattle.eval_state.specs.Sizes.{clause_nodes, value_nodes, dynamic_nodes}
use Rattle.eval_state.proofs.NodesInside.{clause_size}
use Rattle.eval_state.proofs.body_nodes.+nodes.Given as goal

abbrev pub decreases-form_nodes : goal.decreases-form_nodes
decreases-form_nodes l = 3 * form_size l.form.now + 1

abbrev pub decreases-nodes_inside : goal.decreases-nodes_inside
decreases-nodes_inside l = 3 * form_size l.form.now

abbrev pub decreases-list_nodes : goal.decreases-list_nodes
decreases-list_nodes l = 3 * forms_size (forms l.list.now)

abbrev pub decreases-clause_list_nodes : goal.decreases-clause_list_nodes
decreases-clause_list_nodes l = 3 * clauses_size (clauses_of l.list.now)

abbrev pub decreases-clause_nodes : goal.decreases-clause_nodes
decreases-clause_nodes l = 3 * clause_size l.clause.now

abbrev pub decreases-value_list_nodes : goal.decreases-value_list_nodes
decreases-value_list_nodes l = 3 * bindings_size (bindings_of l.list.now)

abbrev pub decreases-dynamic_list_nodes : goal.decreases-dynamic_list_nodes
decreases-dynamic_list_nodes l = 3 * dynamics_size (dynamics_of l.list.now)

abbrev pub invariant-list_nodes-loop-at : goal.invariant-list_nodes-loop-at
invariant-list_nodes-loop-at l = IsCounted nodes l.list 0 l.at l.total

abbrev pub invariant-clause_list_nodes-loop-at : goal.invariant-clause_list_nodes-loop-at
invariant-clause_list_nodes-loop-at l = IsCounted clause_nodes l.list 0 l.at l.total

abbrev pub invariant-value_list_nodes-loop-at : goal.invariant-value_list_nodes-loop-at
invariant-value_list_nodes-loop-at l = IsCounted value_nodes l.list 0 l.at l.total

abbrev pub invariant-dynamic_list_nodes-loop-at : goal.invariant-dynamic_list_nodes-loop-at
invariant-dynamic_list_nodes-loop-at l = IsCounted dynamic_nodes l.list 0 l.at l.total
