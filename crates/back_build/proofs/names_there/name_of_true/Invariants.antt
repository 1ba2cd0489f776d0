-- None of the names in front is that of t.
use Rattle.std.proofs.Common.{◌≡◌, ℕ, ◌<◌, Some, [], ◌∷◌, slice_get}
use Rattle.back_build.proofs.names_there.name_of_true.Given as goal

abbrev pub invariant-loop-number : goal.invariant-loop-number
invariant-loop-number l = (i : ℕ) → i < l.number → slice_get l.names i ≡ Some (116 ∷ []) → ⊥
