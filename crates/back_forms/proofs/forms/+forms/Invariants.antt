-- The sizes of the forms fall, and the code of the items so far stands in front of that of the rest.
use Rattle.std.proofs.Common.{◌≡◌, ◌+◌, ◌-◌, ◌*◌, ◌++◌, drop}
use Rattle.flat_language.specs.FlatForm.{form_size, forms_size, clauses_size, body_size, bindings_size, dynamics_size}
use Rattle.flat_language.specs.model.View.{forms, clauses_of, bindings_of, dynamics_of, maybe_form}
use Rattle.back_forms.specs.Lowers.{low_behind, low_arguments, low_segments, low_clauses, low_bindings, low_dynamics}
use Rattle.back_forms.proofs.Cases.{codes_behind}
use Rattle.back_forms.proofs.forms.+forms.Given as goal

abbrev pub decreases-value : goal.decreases-value
decreases-value l = 8 * form_size l.form.now + 2

abbrev pub decreases-inside : goal.decreases-inside
decreases-inside l = 8 * form_size l.form.now + 3

abbrev pub decreases-judged : goal.decreases-judged
decreases-judged l = 8 * form_size l.form.now + 3

abbrev pub decreases-sequence : goal.decreases-sequence
decreases-sequence l = 8 * forms_size (forms l.list.now)

abbrev pub decreases-arguments : goal.decreases-arguments
decreases-arguments l = 8 * forms_size (forms l.list.now)

abbrev pub decreases-call_value : goal.decreases-call_value
decreases-call_value l = 8 * forms_size (forms l.list.now) + 1

abbrev pub decreases-segments : goal.decreases-segments
decreases-segments l = 8 * forms_size (forms l.list.now)

abbrev pub decreases-tagbody : goal.decreases-tagbody
decreases-tagbody l = 8 * forms_size (forms l.list.now) + 1

abbrev pub decreases-clauses : goal.decreases-clauses
decreases-clauses l = 8 * clauses_size (clauses_of l.list.now)

abbrev pub decreases-clause : goal.decreases-clause
decreases-clause l = 8 * (form_size l.choice.now.test + body_size (maybe_form l.choice.now.body)) + 1

abbrev pub decreases-asked_clause : goal.decreases-asked_clause
decreases-asked_clause l = 8 * (form_size l.choice.now.test + body_size (maybe_form l.choice.now.body))

abbrev pub decreases-let_code : goal.decreases-let_code
decreases-let_code l = 8 * (bindings_size (bindings_of l.list.now) + form_size l.body.now) + 4

abbrev pub decreases-values : goal.decreases-values
decreases-values l = 8 * bindings_size (bindings_of l.list.now)

abbrev pub decreases-while_code : goal.decreases-while_code
decreases-while_code l = 8 * (form_size l.test.now + form_size l.body.now) + 4

abbrev pub decreases-unwind : goal.decreases-unwind
decreases-unwind l = 8 * (form_size l.form.now + form_size l.cleanup.now) + 4

abbrev pub decreases-dynamic_let : goal.decreases-dynamic_let
decreases-dynamic_let l = 8 * (dynamics_size (dynamics_of l.list.now) + form_size l.body.now) + 4

abbrev pub decreases-dynamics : goal.decreases-dynamics
decreases-dynamics l = 8 * dynamics_size (dynamics_of l.list.now)

abbrev pub invariant-sequence-loop-i : goal.invariant-sequence-loop-i
invariant-sequence-loop-i l = record {
  same : l.scope ≡ l.initial.scope;
  so : l.code ++ low_behind l.given l.initial.scope l.d (forms (drop l.i l.list)) ≡ l.initial.code ++ low_behind l.given l.initial.scope l.d (forms l.list);
}

abbrev pub invariant-arguments-loop-i : goal.invariant-arguments-loop-i
invariant-arguments-loop-i l = record {
  same : l.scope ≡ l.initial.scope;
  so : l.code ++ low_arguments l.given l.initial.scope (l.d + l.i) (forms (drop l.i l.list)) ≡ l.initial.code ++ low_arguments l.given l.initial.scope l.d (forms l.list);
}

abbrev pub invariant-segments-loop-i : goal.invariant-segments-loop-i
invariant-segments-loop-i l = record {
  same : l.scope ≡ l.initial.scope;
  so : codes_behind l.cases (low_segments l.given l.initial.scope l.d (forms (drop l.i l.list))) ≡ low_segments l.given l.initial.scope l.d (forms l.list);
}

abbrev pub invariant-clauses-loop-i : goal.invariant-clauses-loop-i
invariant-clauses-loop-i l = record {
  same : l.scope ≡ l.initial.scope;
  so : l.otherwise ≡ low_clauses l.given l.initial.scope l.d (clauses_of (drop (l.count - l.i) l.list));
}

abbrev pub invariant-values-loop-i : goal.invariant-values-loop-i
invariant-values-loop-i l = record {
  same : l.scope ≡ l.initial.scope;
  so : l.code ++ low_bindings l.given l.initial.scope (l.d + l.i) (bindings_of (drop l.i l.list)) ≡ l.initial.code ++ low_bindings l.given l.initial.scope l.d (bindings_of l.list);
}

abbrev pub invariant-dynamics-loop-i : goal.invariant-dynamics-loop-i
invariant-dynamics-loop-i l = record {
  same : l.scope ≡ l.initial.scope;
  so : l.code ++ low_dynamics l.given l.initial.scope (l.d + l.i) (dynamics_of (drop l.i l.list)) ≡ l.initial.code ++ low_dynamics l.given l.initial.scope l.d (dynamics_of l.list);
}
