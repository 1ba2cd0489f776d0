-- The sizes of the forms fall; in a loop it is left to see what the rest says.
use Rattle.std.specs.List.{list_any}
use Rattle.lang_meaning.specs.Mentions.{mentions}
use Rattle.lang_meaning.specs.bridge.Smaller.{IsLeft, form_measure, forms_measure}
use Rattle.lang_meaning.proofs.mentioned.+mentions.Given as goal

abbrev pub decreases-mentions : goal.decreases-mentions
decreases-mentions l = form_measure l.form.now

abbrev pub decreases-one_mentions : goal.decreases-one_mentions
decreases-one_mentions l = forms_measure l.forms

abbrev pub invariant-one_mentions-loop-form : goal.invariant-one_mentions-loop-form
invariant-one_mentions-loop-form l = IsLeft (list_any (mentions l.part)) l.fn.forms l.form-iterator
