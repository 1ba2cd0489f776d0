-- The sizes of the forms fall.
use Rattle.std.proofs.Common.{◌≡◌, ◌≤◌, ◌+◌, ◌*◌, length}
use Rattle.lang_meaning.specs.Form.{Form, form_size, forms_size, clauses_size, maybe_size, bindings_size, dynamics_size}
use Rattle.lang_meaning.specs.Meaning.{bound_variables}
use Rattle.lang_meaning.specs.model.View.{view_form, forms, clauses_of, maybe_form, bindings_of, dynamics_of}
use Rattle.flat_language.specs.Flatten.{flat, functions, inner_procedures}
use Rattle.flat_conversion.specs.Binders.{binders}
use Rattle.flat_conversion.specs.NewVariables.{new_variables}
use Rattle.flat_conversion.specs.Places.{scope_of}
use Rattle.flat_conversion.proofs.Going.{Going, one_clause, clause_inside, clause_count, clause_front, one_binding, binding_inside, binding_count, binding_front, one_dynamic, dynamic_inside, dynamic_count, dynamic_front}
use Rattle.flat_conversion.proofs.forms.+flat.Given as goal

abbrev pub decreases-flat : goal.decreases-flat
decreases-flat l = 5 * form_size l.form.now + 1

abbrev pub decreases-flat_kind : goal.decreases-flat_kind
decreases-flat_kind l = 5 * form_size (view_form l.form.now)

abbrev pub decreases-boxed : goal.decreases-boxed
decreases-boxed l = 5 * form_size l.form.now + 2

abbrev pub decreases-both : goal.decreases-both
decreases-both l = 5 * (form_size l.first.now + form_size l.second.now) + 3

abbrev pub decreases-flat_body : goal.decreases-flat_body
decreases-flat_body l = 5 * maybe_size (maybe_form l.body.now)

abbrev pub decreases-flat_forms : goal.decreases-flat_forms
decreases-flat_forms l = 5 * forms_size (forms l.list.now)

abbrev pub decreases-flat_clauses : goal.decreases-flat_clauses
decreases-flat_clauses l = 5 * clauses_size (clauses_of l.list.now)

abbrev pub decreases-flat_let : goal.decreases-flat_let
decreases-flat_let l = 5 * (bindings_size (bindings_of l.list.now) + form_size l.body.now) + 3

abbrev pub decreases-flat_values : goal.decreases-flat_values
decreases-flat_values l = 5 * bindings_size (bindings_of l.list.now)

abbrev pub decreases-flat_inside : goal.decreases-flat_inside
decreases-flat_inside l = 5 * form_size l.body.now + 2

abbrev pub decreases-flat_dynamic_let : goal.decreases-flat_dynamic_let
decreases-flat_dynamic_let l = 5 * (dynamics_size (dynamics_of l.list.now) + form_size l.body.now) + 3

abbrev pub decreases-flat_dynamics : goal.decreases-flat_dynamics
decreases-flat_dynamics l = 5 * dynamics_size (dynamics_of l.list.now)

abbrev pub decreases-function : goal.decreases-function
decreases-function l = 5 * form_size l.body.now + 4

abbrev pub decreases-procedure : goal.decreases-procedure
decreases-procedure l = 5 * form_size l.body.now + 3

abbrev pub invariant-flat_forms-loop-at : goal.invariant-flat_forms-loop-at
invariant-flat_forms-loop-at l = record {
  same : l.places ≡ l.initial.places;
  longer : length l.initial.progress.lambdas ≤ length l.progress.lambdas;
  going : Going (flat (scope_of l.initial.places)) (inner_procedures (scope_of l.initial.places)) functions binders l.binders l.list l.initial.progress l.at l.made l.progress;
}

abbrev pub invariant-flat_clauses-loop-at : goal.invariant-flat_clauses-loop-at
invariant-flat_clauses-loop-at l = record {
  same : l.places ≡ l.initial.places;
  longer : length l.initial.progress.lambdas ≤ length l.progress.lambdas;
  going : Going (one_clause (scope_of l.initial.places)) (clause_inside (scope_of l.initial.places)) clause_count clause_front l.binders l.list l.initial.progress l.at l.made l.progress;
}

abbrev pub invariant-flat_values-loop-at : goal.invariant-flat_values-loop-at
invariant-flat_values-loop-at l = record {
  same : l.places ≡ l.initial.places;
  longer : length l.initial.progress.lambdas ≤ length l.progress.lambdas;
  going : (body : Form) → l.news ≡ new_variables (bound_variables (bindings_of l.list)) body
      → Going (one_binding (scope_of l.initial.places) body) (binding_inside (scope_of l.initial.places)) binding_count binding_front l.binders l.list l.initial.progress l.at l.made l.progress;
}

abbrev pub invariant-flat_dynamics-loop-at : goal.invariant-flat_dynamics-loop-at
invariant-flat_dynamics-loop-at l = record {
  same : l.places ≡ l.initial.places;
  longer : length l.initial.progress.lambdas ≤ length l.progress.lambdas;
  going : Going (one_dynamic (scope_of l.initial.places)) (dynamic_inside (scope_of l.initial.places)) dynamic_count dynamic_front l.binders l.list l.initial.progress l.at l.made l.progress;
}
