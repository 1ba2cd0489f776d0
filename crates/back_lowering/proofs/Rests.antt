-- Lists from a place on.
use Rattle.std.proofs.Common.{◌≡◌, ℕ, zero, suc, ◌≤◌, List, [], ◌∷◌, Some, length, drop, slice_get, refl, ap, arith}

pub there : {X : Type 0} (xs : List X) (i : ℕ) (x : X) → slice_get xs i ≡ Some x → drop i xs ≡ x ∷ drop (suc i) xs
there [] i x e = absurd (cc)
there (y ∷ ys) zero x e = let s : y ≡ x = cc in ap (λ z. z ∷ ys) s
there (y ∷ ys) (suc i) x e = there ys i x e

pub past : {X : Type 0} (xs : List X) (i : ℕ) → length xs ≤ i → drop i xs ≡ []
past [] zero h = refl
past [] (suc i) h = refl
past (y ∷ ys) zero h = absurd (omega arith)
past (y ∷ ys) (suc i) h = past ys i (omega arith)
