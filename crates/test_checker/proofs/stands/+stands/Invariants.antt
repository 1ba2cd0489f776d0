-- The sizes of the forms fall; in a loop it is left to see what the rest says.
use Rattle.std.specs.List.{list_all}
use Rattle.lang_meaning.specs.Standing.{stands}
use Rattle.lang_meaning.specs.bridge.Smaller.{IsLeft, form_measure, forms_measure}
use Rattle.test_checker.proofs.stands.+stands.Given as goal

abbrev pub decreases-stands : goal.decreases-stands
decreases-stands l = form_measure l.form.now

abbrev pub decreases-all_stand : goal.decreases-all_stand
decreases-all_stand l = forms_measure l.forms

abbrev pub invariant-all_stand-loop-form : goal.invariant-all_stand-loop-form
invariant-all_stand-loop-form l = IsLeft (list_all (stands l.scope)) l.fn.forms l.form-iterator
