use Rattle.std.proofs.Common.{◌≡◌, false, take}
use Rattle.back_liveness.specs.Liveness.{have_line}
use Rattle.back_allocation.proofs.placing.have_first.Given as goal

abbrev pub invariant-loop-at : goal.invariant-loop-at
invariant-loop-at l = have_line (take l.at l.own) 0 ≡ false
