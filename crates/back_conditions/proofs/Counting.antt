-- Numbers that differ from one another and are below a number are no more than that.
use Rattle.std.proofs.Common.{◌≡◌, ℕ, zero, suc, ◌<◌, ◌≤◌, Bool, true, false, List, [], ◌∷◌, length, refl, arith}
use Rattle.std.specs.Prelude.{⊤, ◌==◌, if◌then◌else◌}
use Rattle.std.proofs.lemmas.Bool.{eqb-true}
use Rattle.std.proofs.lemmas.Bool.Decides.{nat_tests}

-- a number is none of these; they differ; and they are below a number
abbrev pub IsNone : ℕ → List ℕ → Type 0
IsNone n [] = ⊤
IsNone n (x ∷ xs) = (n ≡ x → ⊥) × IsNone n xs

abbrev pub Differ : List ℕ → Type 0
Differ [] = ⊤
Differ (x ∷ xs) = IsNone x xs × Differ xs

abbrev pub Below : ℕ → List ℕ → Type 0
Below m [] = ⊤
Below m (x ∷ xs) = (x < m) × Below m xs

-- without one
abbrev without : ℕ → List ℕ → List ℕ
without m [] = []
without m (x ∷ xs) = if x == m then xs else x ∷ without m xs

one_less : (m : ℕ) (xs : List ℕ) → length xs ≤ suc (length (without m xs))
one_less m [] = omega arith
one_less m (x ∷ xs) = by (x == m) (one_less m xs)
  where
    by : (b : Bool) → length xs ≤ suc (length (without m xs)) → suc (length xs) ≤ suc (length (if b then xs else x ∷ without m xs))
    by true h = omega arith
    by false h = omega (arith, h)

none_without : (m n : ℕ) (xs : List ℕ) → IsNone n xs → IsNone n (without m xs)
none_without m n [] h = tt
none_without m n (x ∷ xs) h = by (x == m) (none_without m n xs h.1)
  where
    by : (b : Bool) → IsNone n (without m xs) → IsNone n (if b then xs else x ∷ without m xs)
    by true inner = h.1
    by false inner = (h.0, inner)

differ_without : (m : ℕ) (xs : List ℕ) → Differ xs → Differ (without m xs)
differ_without m [] h = tt
differ_without m (x ∷ xs) h = by (x == m) (differ_without m xs h.1)
  where
    by : (b : Bool) → Differ (without m xs) → Differ (if b then xs else x ∷ without m xs)
    by true inner = h.1
    by false inner = (none_without m x xs h.0, inner)

below_last : (m : ℕ) (xs : List ℕ) → IsNone m xs → Below (suc m) xs → Below m xs
below_last m [] h g = tt
below_last m (x ∷ xs) h g = (less (λ e. h.0 e) g.0, below_last m xs h.1 g.1)
  where
    less : (m ≡ x → ⊥) → x < suc m → x < m
    less other few = grind (arith, nat_tests)

below_without : (m : ℕ) (xs : List ℕ) → Differ xs → Below (suc m) xs → Below m (without m xs)
below_without m [] h g = tt
below_without m (x ∷ xs) h g = by (x == m) refl (below_without m xs h.1 g.1)
  where
    same : x ≡ m → IsNone x xs → IsNone m xs
    same e k = rw (← e) k

    by : (b : Bool) → (x == m) ≡ b → Below m (without m xs) → Below m (if b then xs else x ∷ without m xs)
    by true e inner = below_last m xs (same (eqb-true x m e) h.0) g.1
    by false e inner = (grind (arith, nat_tests, g.0, e), inner)

-- **as many as there are below**
pub few_below : (m : ℕ) (xs : List ℕ) → Differ xs → Below m xs → length xs ≤ m
few_below m [] h g = omega arith
few_below zero (x ∷ xs) h g = absurd (omega (arith, g.0))
few_below (suc m) (x ∷ xs) h g =
    let less = one_less m (x ∷ xs) in
    let inner = few_below m (without m (x ∷ xs)) (differ_without m (x ∷ xs) h) (below_without m (x ∷ xs) h g) in
    omega (arith, less, inner)
