-- What is passed is copied.
use Rattle.std.proofs.Common.{◌≡◌, take}
use Rattle.lang_meaning.proofs.core_form.copies.variables_copy.Given as goal

abbrev pub invariant-loop-var : goal.invariant-loop-var
invariant-loop-var l = l.copied ≡ take l.var-index l.list
