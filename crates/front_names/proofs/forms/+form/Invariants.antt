-- The sizes of the forms fall; in a loop it is left to see whether the names of the rest are below.
use Rattle.std.specs.List.{list_all}
use Rattle.lang_meaning.specs.bridge.Smaller.{IsLeft, form_measure, forms_measure}
use Rattle.front_names.specs.Tests.{is_form_below}
use Rattle.front_names.proofs.forms.+form.Given as goal

abbrev pub decreases-is_form_below : goal.decreases-is_form_below
decreases-is_form_below l = form_measure l.form.now

abbrev pub decreases-are_forms_below : goal.decreases-are_forms_below
decreases-are_forms_below l = forms_measure l.forms

abbrev pub invariant-are_forms_below-loop-form : goal.invariant-are_forms_below-loop-form
invariant-are_forms_below-loop-form l = IsLeft (list_all (is_form_below l.count)) l.fn.forms l.form-iterator
