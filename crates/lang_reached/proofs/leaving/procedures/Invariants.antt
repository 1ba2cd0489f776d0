-- What is passed is there, with its body or without.
use Rattle.std.proofs.Common.{◌≡◌, take}
use Rattle.lang_reached.specs.LeftOut.{procedures_left}
use Rattle.lang_reached.proofs.leaving.procedures.Given as goal

abbrev pub invariant-loop-at : goal.invariant-loop-at
invariant-loop-at l = l.left ≡ procedures_left l.marks 0 (take l.at l.list)
