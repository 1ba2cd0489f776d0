-- None of those so far is the group.
use Rattle.std.proofs.Common.{◌≡◌, ◌<◌, ◌≢◌, ℕ, List, Some, slice_get}
use Rattle.lang_dispatch.proofs.groups.place_of.Given as goal

abbrev pub invariant-loop-at : goal.invariant-loop-at
invariant-loop-at l = (k : ℕ) → (g : List ℕ) → k < l.at → slice_get l.kept k ≡ Some g → g ≢ l.group
