-- The sizes of the forms fall; in a loop the parts of those that are passed are gathered.
use Rattle.lang_meaning.specs.bridge.Smaller.{form_measure, forms_measure}
use Rattle.front_elaboration.proofs.Walks.{Gathered}
use Rattle.front_elaboration.proofs.mentioning.+walk.Given as goal

abbrev pub decreases-walk : goal.decreases-walk
decreases-walk l = form_measure l.form.now

abbrev pub decreases-walk_all : goal.decreases-walk_all
decreases-walk_all l = forms_measure l.forms

abbrev pub invariant-walk_all-loop-form : goal.invariant-walk_all-loop-form
invariant-walk_all-loop-form l = Gathered l.all l.fn.forms l.form-iterator
