-- The sizes of the forms fall; in a loop it is left to mark what those of the rest mention.
use Rattle.std.proofs.Common.{◌+◌, ◌*◌}
use Rattle.lang_meaning.specs.Form.{form_size}
use Rattle.lang_meaning.specs.bridge.Smaller.{sizes}
use Rattle.lang_reached.proofs.Marking.{ToMark}
use Rattle.lang_reached.proofs.forms.+mark_form.Given as goal

abbrev pub decreases-mark_form : goal.decreases-mark_form
decreases-mark_form l = 2 * form_size l.form.now + 1

abbrev pub decreases-mark_forms : goal.decreases-mark_forms
decreases-mark_forms l = 2 * sizes l.forms + 2

abbrev pub invariant-mark_forms-loop-form : goal.invariant-mark_forms-loop-form
invariant-mark_forms-loop-form l = ToMark l.given.names.now l.given.program.now l.fn.forms l.initial.search l.search l.form-iterator
