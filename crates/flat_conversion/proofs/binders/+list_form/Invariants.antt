-- The sizes of the forms fall; in a loop it is left to list those of the rest.
use Rattle.std.proofs.Common.{◌+◌, ◌*◌}
use Rattle.lang_meaning.specs.Form.{form_size}
use Rattle.lang_meaning.specs.bridge.Smaller.{sizes}
use Rattle.flat_conversion.proofs.Listing.{ToList}
use Rattle.flat_conversion.proofs.binders.+list_form.Given as goal

abbrev pub decreases-list_form : goal.decreases-list_form
decreases-list_form l = 4 * form_size l.form.now + 3

abbrev pub decreases-list_all : goal.decreases-list_all
decreases-list_all l = 4 * sizes l.forms + 4

abbrev pub decreases-list_plain : goal.decreases-list_plain
decreases-list_plain l = 4 * form_size l.form.now + 2

abbrev pub decreases-list_let : goal.decreases-list_let
decreases-list_let l = 4 * form_size l.form.now + 2

abbrev pub decreases-list_function : goal.decreases-list_function
decreases-list_function l = 4 * form_size l.body.now + 5

abbrev pub decreases-list_body : goal.decreases-list_body
decreases-list_body l = 4 * form_size l.body.now + 4

abbrev pub invariant-list_all-loop-form : goal.invariant-list_all-loop-form
invariant-list_all-loop-form l = ToList l.initial.made l.initial.marks l.fn.forms l.made l.marks l.form-iterator
