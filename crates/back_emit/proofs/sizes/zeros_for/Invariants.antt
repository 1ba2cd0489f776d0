-- A zero for each line that was looked at, and one more.
use Rattle.std.proofs.Common.{◌≡◌, ◌+◌, replicate}
use Rattle.back_emit.proofs.sizes.zeros_for.Given as goal

abbrev pub invariant-loop-line : goal.invariant-loop-line
invariant-loop-line l = l.zeros ≡ replicate (l._line-index + 1) 0
