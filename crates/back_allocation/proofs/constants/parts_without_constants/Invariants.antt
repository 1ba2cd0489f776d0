use Rattle.std.proofs.Common.{◌≡◌, ◌<◌, ℕ, [], length, None, Some}
use Rattle.std.specs.Prelude.{slice_index_or}
use Rattle.back_allocation.specs.Constants.{constant_in}
use Rattle.back_allocation.proofs.constants.parts_without_constants.Given as goal

abbrev pub invariant-loop-name : goal.invariant-loop-name
invariant-loop-name l = record {
  long : length l.kept ≡ length l.initial.kept;
  same : (v : ℕ) → constant_in l.constants v ≡ None → slice_index_or l.kept v [] ≡ slice_index_or l.initial.kept v [];
  none : (v w : ℕ) → v < l.name → constant_in l.constants v ≡ Some w → slice_index_or l.kept v [] ≡ [];
}
