-- The conses so far.
use Rattle.std.proofs.Common.{◌≡◌, ◌+◌, ◌-◌, ◌++◌}
use Rattle.back_lowering.specs.Calls.{list_of}
use Rattle.back_leaves.proofs.registers.list_of.Given as goal

abbrev pub invariant-loop-i : goal.invariant-loop-i
invariant-loop-i l = l.code ≡ l.fn.code ++ list_of l.i (l.d + (l.count - l.i)) l.t
