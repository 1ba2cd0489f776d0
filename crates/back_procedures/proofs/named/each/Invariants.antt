-- The registers so far.
use Rattle.std.proofs.Common.{◌≡◌, ◌++◌, take}
use Rattle.back_procedures.proofs.named.each.Given as goal

abbrev pub invariant-loop-register : goal.invariant-loop-register
invariant-loop-register l = l.list ≡ l.initial.list ++ take l.register-index l.more
