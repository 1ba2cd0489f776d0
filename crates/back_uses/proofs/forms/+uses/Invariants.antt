-- The sizes of the forms fall; what the items so far use is added.
use Rattle.std.proofs.Common.{take}
use Rattle.flat_language.specs.FlatForm.{form_size, forms_size, clauses_size, body_size, bindings_size, dynamics_size}
use Rattle.flat_language.specs.model.View.{forms, clauses_of, bindings_of, dynamics_of, maybe_form}
use Rattle.back_words.specs.Uses.{uses_of_forms, uses_of_clauses, uses_of_values, uses_of_dynamics}
use Rattle.back_uses.specs.Used.{AreAdded}
use Rattle.back_uses.proofs.forms.+uses.Given as goal

abbrev pub decreases-add_uses : goal.decreases-add_uses
decreases-add_uses l = form_size l.form.now

abbrev pub decreases-add_forms : goal.decreases-add_forms
decreases-add_forms l = forms_size (forms l.list.now)

abbrev pub decreases-add_clauses : goal.decreases-add_clauses
decreases-add_clauses l = clauses_size (clauses_of l.list.now)

abbrev pub decreases-add_body : goal.decreases-add_body
decreases-add_body l = body_size (maybe_form l.body.now)

abbrev pub decreases-add_bindings : goal.decreases-add_bindings
decreases-add_bindings l = bindings_size (bindings_of l.list.now)

abbrev pub decreases-add_dynamic_bindings : goal.decreases-add_dynamic_bindings
decreases-add_dynamic_bindings l = dynamics_size (dynamics_of l.list.now)

abbrev pub invariant-add_forms-loop-at : goal.invariant-add_forms-loop-at
invariant-add_forms-loop-at l =
    AreAdded l.initial.used (uses_of_forms l.lookups.names.now l.lookups.program.now (forms (take l.at l.list))) l.used

abbrev pub invariant-add_clauses-loop-at : goal.invariant-add_clauses-loop-at
invariant-add_clauses-loop-at l =
    AreAdded l.initial.used (uses_of_clauses l.lookups.names.now l.lookups.program.now (clauses_of (take l.at l.list))) l.used

abbrev pub invariant-add_bindings-loop-at : goal.invariant-add_bindings-loop-at
invariant-add_bindings-loop-at l =
    AreAdded l.initial.used (uses_of_values l.lookups.names.now l.lookups.program.now (bindings_of (take l.at l.list))) l.used

abbrev pub invariant-add_dynamic_bindings-loop-at : goal.invariant-add_dynamic_bindings-loop-at
invariant-add_dynamic_bindings-loop-at l =
    AreAdded l.initial.used (uses_of_dynamics l.lookups.names.now l.lookups.program.now (dynamics_of (take l.at l.list))) l.used
