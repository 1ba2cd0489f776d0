use Rattle.std.proofs.Common.{◌≡◌, map, take}
use Rattle.back_allocation.specs.NamesFound.{name_in}
use Rattle.back_allocation.proofs.names.named_registers.Given as goal

abbrev pub invariant-loop-register : goal.invariant-loop-register
invariant-loop-register l = l.named ≡ map (name_in l.owners l.current) (take l.register-index l.register-items)
