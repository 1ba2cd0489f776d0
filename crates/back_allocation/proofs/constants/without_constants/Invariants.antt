use Rattle.std.proofs.Common.{◌≡◌, ◌<◌, ℕ, None, Some, length, get_or}
use Rattle.back_allocation.specs.Constants.{constant_in}
use Rattle.back_allocation.proofs.constants.without_constants.Given as goal

abbrev pub invariant-loop-name : goal.invariant-loop-name
invariant-loop-name l = record {
  count : length l.kept ≡ l.name;
  same : (k : ℕ) → k < l.name → constant_in l.constants k ≡ None → get_or l.kept k None ≡ get_or l.all k None;
  none : (k w : ℕ) → constant_in l.constants k ≡ Some w → get_or l.kept k None ≡ None;
}
