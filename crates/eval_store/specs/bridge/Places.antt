-- A list of what may be there, when one is set or there is room for one more.
use Rattle.std.proofs.Common.{◌≡◌, ℕ, zero, suc, ◌<◌, ◌==◌, List, [], ◌∷◌, ◌++◌, length, Option, Some, None, refl, arith}
use Rattle.std.specs.Prelude.{slice_get, slice_set, if◌then◌else◌}
use Rattle.std.proofs.Math.Dec.{eqb-suc-zero, eqb-zero-suc, eqb-suc-suc}
use Rattle.eval_store.specs.NamedValues.{item_or_none}

-- one more that has no value
pub none_more : {X : Type 0} (xs : List (Option X)) (i : ℕ) → item_or_none (slice_get (xs ++ None ∷ []) i) ≡ item_or_none (slice_get xs i)
none_more [] zero = refl
none_more [] (suc i) = refl
none_more (x ∷ xs) zero = refl
none_more (x ∷ xs) (suc i) = none_more xs i

-- what is looked up after a value was set
pub looked_up : {X : Type 0} (xs : List (Option X)) (i j : ℕ) (x : X) → i < length xs
    → item_or_none (slice_get (slice_set xs i (Some x)) j) ≡ (if j == i then Some x else item_or_none (slice_get xs j))
looked_up [] i j x h = absurd (omega arith)
looked_up (y ∷ ys) zero zero x h = refl
looked_up (y ∷ ys) zero (suc j) x h = rw (eqb-suc-zero j) refl
looked_up (y ∷ ys) (suc i) zero x h = rw (eqb-zero-suc i) refl
looked_up (y ∷ ys) (suc i) (suc j) x h = rw (eqb-suc-suc j i) (looked_up ys i j x (omega arith))
