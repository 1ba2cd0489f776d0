-- The items of a prefix of a list.
use Rattle.std.proofs.Common.{◌≡◌, ℕ, zero, suc, ◌<◌, List, [], ◌∷◌, Some, take, slice_get, arith}

pub of_prefix : {X : Type 0} (n : ℕ) (xs : List X) (i : ℕ) (x : X) → slice_get (take n xs) i ≡ Some x → (i < n) × (slice_get xs i ≡ Some x)
of_prefix zero xs i x h = absurd (cc)
of_prefix (suc n) [] i x h = absurd (cc)
of_prefix (suc n) (y ∷ ys) zero x h = (omega arith, h)
of_prefix (suc n) (y ∷ ys) (suc i) x h =
    let rest : (i < n) × (slice_get ys i ≡ Some x) = of_prefix n ys i x h in (omega (arith, rest.0), rest.1)

pub in_prefix : {X : Type 0} (n : ℕ) (xs : List X) (i : ℕ) (x : X) → i < n → slice_get xs i ≡ Some x → slice_get (take n xs) i ≡ Some x
in_prefix zero xs i x l h = absurd (omega (arith, l))
in_prefix (suc n) [] i x l h = absurd (cc)
in_prefix (suc n) (y ∷ ys) zero x l h = h
in_prefix (suc n) (y ∷ ys) (suc i) x l h = in_prefix n ys i x (omega (arith, l)) h
