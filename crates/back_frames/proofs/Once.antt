-- A list has no more different items than another one in which each of them is.
use Rattle.std.proofs.Common.{◌≡◌, ◌≢◌, ℕ, zero, suc, ◌+◌, ◌==◌, ◌||◌, ◌<◌, ◌≤◌, Bool, true, false, List, [], ◌∷◌, ◌++◌, ◌⊎◌, inl, inr, length, refl, sym, ap, ◌∙◌, arith}
use Rattle.std.specs.Prelude.{if◌then◌else◌}
use Rattle.std.proofs.lemmas.Bool.Decides.{eqb_tells, nat_tests}
use Rattle.base.specs.AllOf.{AllOf}
use Rattle.lang_meaning.specs.Lookup.{is_in}
use Rattle.lang_meaning.specs.Reached.{once}
use Rattle.back_lowering.specs.Scope.{registers_from}

abbrev pub In : ℕ → List ℕ → Type 0
In r [] = ⊥
In r (m ∷ ms) = (r ≡ m) ⊎ In r ms

pub in_left : (r : ℕ) (xs ys : List ℕ) → In r xs → In r (xs ++ ys)
in_left r [] ys h = absurd h
in_left r (x ∷ xs) ys (inl e) = inl e
in_left r (x ∷ xs) ys (inr h) = inr (in_left r xs ys h)

pub in_right : (r : ℕ) (xs ys : List ℕ) → In r ys → In r (xs ++ ys)
in_right r [] ys h = h
in_right r (x ∷ xs) ys h = inr (in_right r xs ys h)

pub all_in : (P : ℕ → Type 0) (rs : List ℕ) → ((r : ℕ) → In r rs → P r) → AllOf P rs
all_in P [] h = tt
all_in P (r ∷ rs) h = (h r (inl refl), all_in P rs (λ q there. h q (inr there)))

pub in_range : (d n r : ℕ) → d ≤ r → r < d + n → In r (registers_from d n)
in_range d zero r low high = absurd (omega arith)
in_range d (suc n) r low high = by (eqb_tells r d) (λ above. in_range (d + 1) n r (omega (arith, above)) (omega arith))
  where
    by : (((r == d) ≡ true) × (r ≡ d)) ⊎ (((r == d) ≡ false) × (r ≢ d)) → (d < r → In r (registers_from (d + 1) n)) → In r (registers_from d (suc n))
    by (inl e) more = inl e.1
    by (inr e) more = let other = e.1 in inr (more (omega arith))

pub length-range : (d n : ℕ) → length (registers_from d n) ≡ n
length-range d zero = refl
length-range d (suc n) = ap suc (length-range (d + 1) n)

-- two numbers by their test

same : (r m : ℕ) → (r == m) ≡ true → r ≡ m
same r m h = grind (arith, nat_tests)

apart : (r m : ℕ) → (r == m) ≡ false → r ≡ m → ⊥
apart r m h e = grind (arith, nat_tests)

-- an item taken away once
abbrev without : ℕ → List ℕ → List ℕ
without r [] = []
without r (m ∷ ms) = if r == m then ms else m ∷ without r ms

without_one : (r : ℕ) (ms : List ℕ) → In r ms → length (without r ms) + 1 ≡ length ms
without_one r [] h = absurd h
without_one r (m ∷ ms) h = by (r == m) refl (λ k. without_one r ms k) h
  where
    by : (b : Bool) → (r == m) ≡ b → (In r ms → length (without r ms) + 1 ≡ length ms) → (r ≡ m) ⊎ In r ms
        → length (if b then ms else m ∷ without r ms) + 1 ≡ length (m ∷ ms)
    by true e rest k = omega arith
    by false e rest (inl k) = absurd (apart r m e k)
    by false e rest (inr k) = let inner = rest k in omega arith

without_other : (r q : ℕ) (ms : List ℕ) → (r ≡ q → ⊥) → In q ms → In q (without r ms)
without_other r q [] other h = absurd h
without_other r q (m ∷ ms) other h = by (r == m) refl (λ k. without_other r q ms other k) h
  where
    by : (b : Bool) → (r == m) ≡ b → (In q ms → In q (without r ms)) → (q ≡ m) ⊎ In q ms → In q (if b then ms else m ∷ without r ms)
    by true e rest (inl k) = absurd (other (same r m e ∙ sym k))
    by true e rest (inr k) = k
    by false e rest (inl k) = inl k
    by false e rest (inr k) = inr (rest k)

all_without : (r : ℕ) (ms rs : List ℕ) → is_in r rs ≡ false → AllOf (λ q. In q ms) rs → AllOf (λ q. In q (without r ms)) rs
all_without r ms [] e h = tt
all_without r ms (q ∷ rs) e h = by (r == q) refl e (λ k. all_without r ms rs k h.1)
  where
    by : (b : Bool) → (r == q) ≡ b → (b || is_in r rs) ≡ false → (is_in r rs ≡ false → AllOf (λ q. In q (without r ms)) rs)
        → AllOf (λ q. In q (without r ms)) (q ∷ rs)
    by true f k rest = absurd (cc)
    by false f k rest = (without_other r q ms (apart r q f) h.0, rest k)

-- **no more different ones**
pub once_few : (rs ms : List ℕ) → AllOf (λ r. In r ms) rs → length (once rs) ≤ length ms
once_few [] ms h = omega arith
once_few (r ∷ rs) ms h = by (is_in r rs) refl (λ ns k. once_few rs ns k)
  where
    by : (b : Bool) → is_in r rs ≡ b → ((ns : List ℕ) → AllOf (λ q. In q ns) rs → length (once rs) ≤ length ns)
        → length ((if b then [] else r ∷ []) ++ once rs) ≤ length ms
    by true e rest = rest ms h.1
    by false e rest = let fewer = rest (without r ms) (all_without r ms rs e h.1) in let one = without_one r ms h.0 in omega arith
