-- The sizes of the forms fall; a loop has the depth of what is passed.
use Rattle.lang_meaning.specs.bridge.Smaller.{form_measure, forms_measure}
use Rattle.lang_meaning.proofs.Counting.{IsDeepest}
use Rattle.lang_meaning.proofs.core_form.+depth.Given as goal

abbrev pub decreases-Core::depth : goal.decreases-Core::depth
decreases-Core::depth l = form_measure l.self.now

abbrev pub decreases-depths::deepest : goal.decreases-depths::deepest
decreases-depths::deepest l = forms_measure l.forms

abbrev pub invariant-depths::deepest-loop-form : goal.invariant-depths::deepest-loop-form
invariant-depths::deepest-loop-form l = IsDeepest l.fn.forms l.form-iterator l.deepest
