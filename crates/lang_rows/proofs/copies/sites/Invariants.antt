-- What is passed is copied.
use Rattle.std.proofs.Common.{◌≡◌, take}
use Rattle.lang_rows.proofs.copies.sites.Given as goal

abbrev pub invariant-loop-place : goal.invariant-loop-place
invariant-loop-place l = l.copied ≡ take l.place-index l.list
