-- The last ones so far, and then the others from their end.
use Rattle.std.proofs.Common.{◌≡◌, ◌+◌, ◌++◌, ℕ, reverse, take, length}
use Rattle.lang_dispatch.proofs.chain.reversed.Given as goal

abbrev pub invariant-loop-step : goal.invariant-loop-step
invariant-loop-step l = (k : ℕ) → l.step + k ≡ length l.list → l.back ++ reverse (take k l.list) ≡ reverse l.list
