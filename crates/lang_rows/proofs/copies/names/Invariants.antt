-- What is passed is copied.
use Rattle.std.proofs.Common.{◌≡◌, take}
use Rattle.lang_rows.proofs.copies.names.Given as goal

abbrev pub invariant-loop-name : goal.invariant-loop-name
invariant-loop-name l = l.copied ≡ take l.name-index l.list
