-- What is passed is copied.
use Rattle.std.proofs.Common.{◌≡◌, take}
use Rattle.lang_meaning.proofs.core_form.copies.parts_copy.Given as goal

abbrev pub invariant-loop-part : goal.invariant-loop-part
invariant-loop-part l = l.copied ≡ take l.part-index l.list
