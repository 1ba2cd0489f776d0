-- The sizes of the forms fall; what was counted, with what is left, is what there is.
use Rattle.std.proofs.Common.{◌≡◌, ◌+◌, drop}
use Rattle.flat_language.specs.FlatForm.{form_size, forms_size, clauses_size, body_size, bindings_size, dynamics_size}
use Rattle.flat_language.specs.model.View.{forms, clauses_of, bindings_of, dynamics_of, maybe_form}
use Rattle.flat_boxes.specs.Totals.{total_of_forms, total_of_clauses, total_of_values, total_of_dynamics}
use Rattle.flat_boxes.specs.Boxes.{captures_itself}
use Rattle.back_build.proofs.captured.+captured.Given as goal

abbrev pub decreases-captured_in : goal.decreases-captured_in
decreases-captured_in l = form_size l.form.now

abbrev pub decreases-captured_in_forms : goal.decreases-captured_in_forms
decreases-captured_in_forms l = forms_size (forms l.list.now)

abbrev pub decreases-captured_in_clauses : goal.decreases-captured_in_clauses
decreases-captured_in_clauses l = clauses_size (clauses_of l.list.now)

abbrev pub decreases-captured_in_body : goal.decreases-captured_in_body
decreases-captured_in_body l = body_size (maybe_form l.body.now)

abbrev pub decreases-captured_in_bindings : goal.decreases-captured_in_bindings
decreases-captured_in_bindings l = bindings_size (bindings_of l.list.now)

abbrev pub decreases-captured_in_dynamics : goal.decreases-captured_in_dynamics
decreases-captured_in_dynamics l = dynamics_size (dynamics_of l.list.now)

abbrev pub invariant-captured_in_forms-loop-at : goal.invariant-captured_in_forms-loop-at
invariant-captured_in_forms-loop-at l =
    l.count + total_of_forms captures_itself (forms (drop l.at l.list)) ≡ total_of_forms captures_itself (forms l.list)

abbrev pub invariant-captured_in_clauses-loop-at : goal.invariant-captured_in_clauses-loop-at
invariant-captured_in_clauses-loop-at l =
    l.count + total_of_clauses captures_itself (clauses_of (drop l.at l.list)) ≡ total_of_clauses captures_itself (clauses_of l.list)

abbrev pub invariant-captured_in_bindings-loop-at : goal.invariant-captured_in_bindings-loop-at
invariant-captured_in_bindings-loop-at l =
    l.count + total_of_values captures_itself (bindings_of (drop l.at l.list)) ≡ total_of_values captures_itself (bindings_of l.list)

abbrev pub invariant-captured_in_dynamics-loop-at : goal.invariant-captured_in_dynamics-loop-at
invariant-captured_in_dynamics-loop-at l =
    l.count + total_of_dynamics captures_itself (dynamics_of (drop l.at l.list)) ≡ total_of_dynamics captures_itself (dynamics_of l.list)
