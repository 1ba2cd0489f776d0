-- The registers so far.
use Rattle.std.proofs.Common.{◌≡◌}
use Rattle.back_lowering.specs.Scope.{registers_from}
use Rattle.back_leaves.proofs.registers.registers.Given as goal

abbrev pub invariant-loop-i : goal.invariant-loop-i
invariant-loop-i l = l.list ≡ registers_from l.d l.i
