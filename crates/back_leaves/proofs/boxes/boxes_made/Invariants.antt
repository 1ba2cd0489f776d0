-- The variables that are left stand behind those that have their boxes.
use Rattle.std.proofs.Common.{◌≡◌, ◌+◌, ◌++◌, drop}
use Rattle.back_lowering.specs.Leaves.{boxes_made}
use Rattle.back_leaves.proofs.boxes.boxes_made.Given as goal

abbrev pub invariant-loop-i : goal.invariant-loop-i
invariant-loop-i l = l.code ++ boxes_made (drop l.i l.homes) (l.d + l.i) l.t ≡ l.fn.code ++ boxes_made l.homes l.d l.t
