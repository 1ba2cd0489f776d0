-- The sizes of the forms fall; in a loop it is left to add the warnings of the rest.
use Rattle.lang_meaning.specs.bridge.Smaller.{form_measure, forms_measure}
use Rattle.lang_warnings.specs.Warnings.{warnings_in}
use Rattle.lang_warnings.proofs.Adding.{LeftToAdd}
use Rattle.lang_warnings.proofs.collected.+form.Given as goal

abbrev pub decreases-add_form : goal.decreases-add_form
decreases-add_form l = form_measure l.form.now

abbrev pub decreases-add_forms : goal.decreases-add_forms
decreases-add_forms l = forms_measure l.forms

abbrev pub invariant-add_forms-loop-form : goal.invariant-add_forms-loop-form
invariant-add_forms-loop-form l =
    LeftToAdd (warnings_in l.known.names.now l.known.program.now) l.fn.forms l.form-iterator l.initial.list.items l.list.items
