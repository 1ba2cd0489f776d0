-- The sizes of the forms fall; in a loop it is left to see what the rest says.
use Rattle.std.specs.List.{list_all}
use Rattle.lang_meaning.specs.Fits.{fits}
use Rattle.lang_meaning.specs.bridge.Smaller.{IsLeft, form_measure, forms_measure}
use Rattle.test_checker.proofs.fits.+fits.Given as goal

abbrev pub decreases-fits : goal.decreases-fits
decreases-fits l = form_measure l.form.now

abbrev pub decreases-all_fit : goal.decreases-all_fit
decreases-all_fit l = forms_measure l.forms

abbrev pub invariant-all_fit-loop-form : goal.invariant-all_fit-loop-form
invariant-all_fit-loop-form l = IsLeft (list_all (fits l.rows)) l.fn.forms l.form-iterator
