use Rattle.std.proofs.Common.{◌≡◌, ◌<◌, ℕ, Some, None, length}
use Rattle.back_allocation.specs.Constants.{constant_in}
use Rattle.back_allocation.proofs.constants.pass_over.Given as goal

abbrev pub invariant-loop-v : goal.invariant-loop-v
invariant-loop-v l = record {
  kept : (k w : ℕ) → constant_in l.constants k ≡ Some w → constant_in l.fn.constants k ≡ Some w;
  count : length l.constants ≡ length l.fn.constants;
  none : (k : ℕ) → k < l.v → constant_in l.constants k ≡ None;
}
