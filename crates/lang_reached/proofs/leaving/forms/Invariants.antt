-- What is passed is copied.
use Rattle.std.proofs.Common.{◌≡◌, take}
use Rattle.lang_reached.proofs.leaving.forms.Given as goal

abbrev pub invariant-loop-form : goal.invariant-loop-form
invariant-loop-form l = l.copied ≡ take l.form-index l.list
