-- A list in which all items are alike, and one more item at the end of a list.
use Rattle.std.proofs.Common.{◌≡◌, ℕ, zero, suc, ◌+◌, ◌<◌, ◌==◌, List, [], ◌∷◌, ◌++◌, length, slice_index_or, slice_set, if◌then◌else◌, refl, ◌∙◌, ap, arith, length-append}
use Rattle.std.proofs.Math.Dec.{eqb-suc-zero, eqb-zero-suc, eqb-suc-suc}

-- so many of one item
pub record AreAll {X : Type 0} (item : X) (count : ℕ) (xs : List X) : Type 0 where
  pub size : length xs ≡ count
  pub each : (i : ℕ) → slice_index_or xs i item ≡ item

default_behind : {X : Type 0} (d : X) (xs : List X) (i : ℕ) → slice_index_or (xs ++ d ∷ []) i d ≡ slice_index_or xs i d
default_behind d [] zero = refl
default_behind d [] (suc i) = refl
default_behind d (x ∷ xs) zero = refl
default_behind d (x ∷ xs) (suc i) = default_behind d xs i

pub none_there : {X : Type 0} (d : X) (xs : List X) → xs ≡ [] → AreAll d 0 xs
none_there d xs e = rw e (record { size = refl; each = λ i. refl })

pub one_longer : {X : Type 0} (xs : List X) (x : X) (new : List X) (i : ℕ) → length xs ≡ i → new ≡ xs ++ x ∷ [] → length new ≡ i + 1
one_longer xs x new i h e = ap length e ∙ omega (arith, length-append xs (x ∷ []), h)

pub one_more : {X : Type 0} (d : X) (xs new : List X) (i : ℕ) → AreAll d i xs → new ≡ xs ++ d ∷ [] → AreAll d (i + 1) new
one_more {X} d xs new i a e = record {
  size = one_longer xs d new i a.size e;
  each = λ k. ap (λ (ys : List X). slice_index_or ys k d) e ∙ default_behind d xs k ∙ a.each k;
}

-- the items of a list with one more at its end
pub before_end : {X : Type 0} (xs : List X) (y : X) (i : ℕ) (d : X) → i < length xs → slice_index_or (xs ++ y ∷ []) i d ≡ slice_index_or xs i d
before_end [] y i d h = absurd (omega arith)
before_end (x ∷ xs) y zero d h = refl
before_end (x ∷ xs) y (suc i) d h = before_end xs y i d (omega arith)

pub at_end : {X : Type 0} (xs : List X) (y : X) (d : X) → slice_index_or (xs ++ y ∷ []) (length xs) d ≡ y
at_end [] y d = refl
at_end (x ∷ xs) y d = at_end xs y d

-- what is found after an item was set
pub looked_up : {X : Type 0} (xs : List X) (i j : ℕ) (x d : X) → i < length xs
    → slice_index_or (slice_set xs i x) j d ≡ (if j == i then x else slice_index_or xs j d)
looked_up [] i j x d h = absurd (omega arith)
looked_up (y ∷ ys) zero zero x d h = refl
looked_up (y ∷ ys) zero (suc j) x d h = rw (eqb-suc-zero j) refl
looked_up (y ∷ ys) (suc i) zero x d h = rw (eqb-zero-suc i) refl
looked_up (y ∷ ys) (suc i) (suc j) x d h = rw (eqb-suc-suc j i) (looked_up ys i j x d (omega arith))
