-- As many registers are copied as were looked at.
use Rattle.std.proofs.Common.{◌≡◌, take}
use Rattle.mid_lines.proofs.flattening.copies.copy_of_registers.Given as goal

abbrev pub invariant-loop-register : goal.invariant-loop-register
invariant-loop-register l = l.copied ≡ take l.register-index l.registers
