-- It is left to see whether the rest are registers.
use Rattle.std.proofs.Common.{◌≡◌, drop}
use Rattle.std.specs.List.{list_all}
use Rattle.mid_code.specs.Checked.{is_register}
use Rattle.mid_code.proofs.check.registers.are_registers.Given as goal

abbrev pub invariant-loop-register : goal.invariant-loop-register
invariant-loop-register l = list_all (is_register l.count) (drop l.register-index l.registers) ≡ list_all (is_register l.count) l.registers
