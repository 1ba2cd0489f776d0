-- Enough for the registers from one on.
use Rattle.std.proofs.Common.{◌≡◌, drop}
use Rattle.back_lowering.specs.Registers as registers
use Rattle.back_procedures.proofs.frames.enough_for.Given as goal

abbrev pub invariant-loop-at : goal.invariant-loop-at
invariant-loop-at l = l.enough ≡ registers.enough_for (drop l.at l.list)
