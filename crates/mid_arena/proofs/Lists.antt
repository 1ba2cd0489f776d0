-- Items of lists: where one was replaced, and where all are the same.
use Rattle.std.proofs.Common.{◌≡◌, ℕ, zero, suc, ◌<◌, List, [], ◌∷◌, length, replicate, Some, refl, ap, arith}
use Rattle.std.specs.Prelude.{slice_get, slice_set}

-- the item that was put at a place, and the others
pub set_here : {X : Type 0} (xs : List X) (i : ℕ) (x : X) → i < length xs → slice_get (slice_set xs i x) i ≡ Some x
set_here [] i x h = absurd (omega arith)
set_here (y ∷ ys) zero x h = refl
set_here (y ∷ ys) (suc i) x h = set_here ys i x (omega arith)

pub set_elsewhere : {X : Type 0} (xs : List X) (i j : ℕ) (x : X) → (i ≡ j → ⊥) → slice_get (slice_set xs i x) j ≡ slice_get xs j
set_elsewhere [] i j x h = refl
set_elsewhere (y ∷ ys) zero zero x h = absurd (h refl)
set_elsewhere (y ∷ ys) zero (suc j) x h = refl
set_elsewhere (y ∷ ys) (suc i) zero x h = refl
set_elsewhere (y ∷ ys) (suc i) (suc j) x h = set_elsewhere ys i j x (λ e. h (ap (λ n. suc n) e))

-- each item of a list with the same item many times
pub replicated : {X : Type 0} (n i : ℕ) (x : X) → i < n → slice_get (replicate n x) i ≡ Some x
replicated zero i x h = absurd (omega arith)
replicated (suc n) zero x h = refl
replicated (suc n) (suc i) x h = replicated n i x (omega arith)
