-- The sizes of the forms fall; in a loop it is left to list what the rest define.
use Rattle.lang_meaning.specs.bridge.Smaller.{form_measure, forms_measure}
use Rattle.lang_warnings.specs.Faults.{defined_in}
use Rattle.lang_warnings.proofs.Adding.{LeftToAdd}
use Rattle.lang_warnings.proofs.defined.+form.Given as goal

abbrev pub decreases-list_form : goal.decreases-list_form
decreases-list_form l = form_measure l.form.now

abbrev pub decreases-list_forms : goal.decreases-list_forms
decreases-list_forms l = forms_measure l.forms

abbrev pub invariant-list_forms-loop-form : goal.invariant-list_forms-loop-form
invariant-list_forms-loop-form l = LeftToAdd defined_in l.fn.forms l.form-iterator l.initial.numbers.items l.numbers.items
