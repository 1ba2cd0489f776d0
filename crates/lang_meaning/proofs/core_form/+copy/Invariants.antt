-- The sizes of the forms fall; a loop has copied what is passed.
use Rattle.std.proofs.Common.{◌≡◌, ◌+◌, ◌*◌, take}
use Rattle.lang_meaning.specs.Form.{form_size, forms_size, clauses_size, maybe_size, bindings_size, dynamics_size}
use Rattle.lang_meaning.specs.model.View.{view_form, forms, clauses_of, maybe_form, bindings_of, dynamics_of}
use Rattle.lang_meaning.proofs.core_form.+copy.Given as goal

abbrev pub decreases-Core::copy : goal.decreases-Core::copy
decreases-Core::copy l = 5 * form_size l.self.now + 2

abbrev pub decreases-copies::form_copy : goal.decreases-copies::form_copy
decreases-copies::form_copy l = 5 * form_size (view_form l.form.now) + 1

abbrev pub decreases-copies::copy_of_one : goal.decreases-copies::copy_of_one
decreases-copies::copy_of_one l = 5 * form_size (view_form l.form.now)

abbrev pub decreases-copies::copy_of_two : goal.decreases-copies::copy_of_two
decreases-copies::copy_of_two l = 5 * form_size (view_form l.form.now)

abbrev pub decreases-copies::copy_of_list : goal.decreases-copies::copy_of_list
decreases-copies::copy_of_list l = 5 * form_size (view_form l.form.now)

abbrev pub decreases-copies::copy_of_body : goal.decreases-copies::copy_of_body
decreases-copies::copy_of_body l = 5 * form_size (view_form l.form.now)

abbrev pub decreases-copies::boxed : goal.decreases-copies::boxed
decreases-copies::boxed l = 5 * form_size l.form.now + 3

abbrev pub decreases-copies::both : goal.decreases-copies::both
decreases-copies::both l = 5 * (form_size l.first.now + form_size l.second.now) + 4

abbrev pub decreases-copies::body_copy : goal.decreases-copies::body_copy
decreases-copies::body_copy l = 5 * maybe_size (maybe_form l.body.now)

abbrev pub decreases-copies::forms_copy : goal.decreases-copies::forms_copy
decreases-copies::forms_copy l = 5 * forms_size (forms l.list.now)

abbrev pub decreases-copies::clauses_copy : goal.decreases-copies::clauses_copy
decreases-copies::clauses_copy l = 5 * clauses_size (clauses_of l.list.now)

abbrev pub decreases-copies::bindings_copy : goal.decreases-copies::bindings_copy
decreases-copies::bindings_copy l = 5 * bindings_size (bindings_of l.list.now)

abbrev pub decreases-copies::dynamics_copy : goal.decreases-copies::dynamics_copy
decreases-copies::dynamics_copy l = 5 * dynamics_size (dynamics_of l.list.now)

abbrev pub invariant-copies::forms_copy-loop-at : goal.invariant-copies::forms_copy-loop-at
invariant-copies::forms_copy-loop-at l = l.copied ≡ take l.at l.list

abbrev pub invariant-copies::clauses_copy-loop-at : goal.invariant-copies::clauses_copy-loop-at
invariant-copies::clauses_copy-loop-at l = l.copied ≡ take l.at l.list

abbrev pub invariant-copies::bindings_copy-loop-at : goal.invariant-copies::bindings_copy-loop-at
invariant-copies::bindings_copy-loop-at l = l.copied ≡ take l.at l.list

abbrev pub invariant-copies::dynamics_copy-loop-at : goal.invariant-copies::dynamics_copy-loop-at
invariant-copies::dynamics_copy-loop-at l = l.copied ≡ take l.at l.list
