-- The sizes of the forms fall; a loop has what the forms that were passed name.
use Rattle.std.proofs.Common.{◌+◌, ◌*◌}
use Rattle.base.specs.bridge.Counted.{IsCounted}
use Rattle.flat_language.specs.FlatForm.{form_size, forms_size, clauses_size, body_size, bindings_size, dynamics_size}
use Rattle.flat_language.specs.model.View.{forms, maybe_form, clauses_of, bindings_of, dynamics_of}
use Rattle.back_lowering.specs.Mentions.{mentions}
use Rattle.back_procedures.specs.Mentioned.{clause_mentions, value_mentions, dynamic_mentions}
use Rattle.back_procedures.proofs.mentions.+mentions.Given as goal

abbrev pub decreases-mentions : goal.decreases-mentions
decreases-mentions l = 3 * form_size l.form.now + 1

abbrev pub decreases-mentions_inside : goal.decreases-mentions_inside
decreases-mentions_inside l = 3 * form_size l.form.now

abbrev pub decreases-list_mentions : goal.decreases-list_mentions
decreases-list_mentions l = 3 * forms_size (forms l.list.now)

abbrev pub decreases-clause_list_mentions : goal.decreases-clause_list_mentions
decreases-clause_list_mentions l = 3 * clauses_size (clauses_of l.list.now)

abbrev pub decreases-clause_mentions : goal.decreases-clause_mentions
decreases-clause_mentions l = 3 * (form_size l.clause.now.test + body_size (maybe_form l.clause.now.body))

abbrev pub decreases-value_list_mentions : goal.decreases-value_list_mentions
decreases-value_list_mentions l = 3 * bindings_size (bindings_of l.list.now)

abbrev pub decreases-dynamic_list_mentions : goal.decreases-dynamic_list_mentions
decreases-dynamic_list_mentions l = 3 * dynamics_size (dynamics_of l.list.now)

abbrev pub invariant-list_mentions-loop-at : goal.invariant-list_mentions-loop-at
invariant-list_mentions-loop-at l = IsCounted mentions l.list 0 l.at l.total

abbrev pub invariant-clause_list_mentions-loop-at : goal.invariant-clause_list_mentions-loop-at
invariant-clause_list_mentions-loop-at l = IsCounted clause_mentions l.list 0 l.at l.total

abbrev pub invariant-value_list_mentions-loop-at : goal.invariant-value_list_mentions-loop-at
invariant-value_list_mentions-loop-at l = IsCounted value_mentions l.list 0 l.at l.total

abbrev pub invariant-dynamic_list_mentions-loop-at : goal.invariant-dynamic_list_mentions-loop-at
invariant-dynamic_list_mentions-loop-at l = IsCounted dynamic_mentions l.list 0 l.at l.total
