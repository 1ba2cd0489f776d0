-- How many of some variables pass a test.
use Rattle.std.proofs.Common.{◌≡◌, ℕ, ◌+◌, ◌==◌, ◌||◌, ◌&&◌, ◌≤◌, Bool, true, false, List, [], ◌∷◌, refl, arith}
use Rattle.std.specs.Prelude.{not, if◌then◌else◌}
use Rattle.std.specs.List.{list_any}
use Rattle.std.proofs.lemmas.Bool.Decides.{nat_tests}
use Rattle.flat_boxes.specs.Parameters.{variables_differ}

abbrev pub counted : (ℕ → Bool) → List ℕ → ℕ
counted p [] = 0
counted p (v ∷ vs) = (if p v then 1 else 0) + counted p vs

pub none_counted : (vs : List ℕ) → counted (λ v. false) vs ≡ 0
none_counted [] = refl
none_counted (v ∷ vs) = let inner = none_counted vs in omega arith

pub either_few : (p q : ℕ → Bool) (vs : List ℕ) → counted (λ v. p v || q v) vs ≤ counted p vs + counted q vs
either_few p q [] = omega arith
either_few p q (v ∷ vs) = by (p v) (q v) (either_few p q vs)
  where
    by : (a b : Bool) → counted (λ v. p v || q v) vs ≤ counted p vs + counted q vs
        → (if a || b then 1 else 0) + counted (λ v. p v || q v) vs ≤ ((if a then 1 else 0) + counted p vs) + ((if b then 1 else 0) + counted q vs)
    by true true inner = omega arith
    by true false inner = omega arith
    by false true inner = omega arith
    by false false inner = omega arith

pub both_few : (p q : ℕ → Bool) (vs : List ℕ) → counted (λ v. p v && q v) vs ≤ counted q vs
both_few p q [] = omega arith
both_few p q (v ∷ vs) = by (p v) (q v) (both_few p q vs)
  where
    by : (a b : Bool) → counted (λ v. p v && q v) vs ≤ counted q vs → (if a && b then 1 else 0) + counted (λ v. p v && q v) vs ≤ (if b then 1 else 0) + counted q vs
    by true true inner = omega arith
    by true false inner = omega arith
    by false true inner = omega arith
    by false false inner = omega arith

-- one form inside, two, and a list; and those inside what a form binds

pub last_few : (p : ℕ → Bool) (vs : List ℕ) → counted (λ v. p v || false) vs ≤ counted p vs
last_few p vs = let either = either_few p (λ v. false) vs in let nothing = none_counted vs in omega arith

pub one_few : (p : ℕ → Bool) (vs : List ℕ) → counted (λ v. (p v || false) || false) vs ≤ counted p vs
one_few p vs = let outer = last_few (λ v. p v || false) vs in let inner = last_few p vs in omega arith

pub two_few : (p q : ℕ → Bool) (vs : List ℕ) → counted (λ v. (p v || (q v || false)) || false) vs ≤ counted p vs + counted q vs
two_few p q vs =
    let outer = last_few (λ v. p v || (q v || false)) vs in let both = either_few p (λ v. q v || false) vs in let inner = last_few q vs in omega arith

pub bound_few : (p b q : ℕ → Bool) (vs : List ℕ) → counted (λ v. p v || (b v && (q v || false))) vs ≤ counted p vs + counted q vs
bound_few p b q vs =
    let both = either_few p (λ v. b v && (q v || false)) vs in let inside = both_few b (λ v. q v || false) vs in let inner = last_few q vs in omega arith

-- a variable is at most one of different ones

equal_none : (w : ℕ) (vs : List ℕ) → list_any (λ u. w == u) vs ≡ false → counted (λ v. v == w) vs ≡ 0
equal_none w [] h = refl
equal_none w (v ∷ vs) h = by (w == v) (v == w) refl refl h (λ k. equal_none w vs k)
  where
    by : (a b : Bool) → (w == v) ≡ a → (v == w) ≡ b → (a || list_any (λ u. w == u) vs) ≡ false → (list_any (λ u. w == u) vs ≡ false → counted (λ v. v == w) vs ≡ 0)
        → (if b then 1 else 0) + counted (λ v. v == w) vs ≡ 0
    by true b e f k rest = absurd (cc)
    by false true e f k rest = absurd (grind (arith, nat_tests))
    by false false e f k rest = let inner = rest k in omega arith

same : (v w : ℕ) → (v == w) ≡ true → v ≡ w
same v w e = grind (arith, nat_tests)

pub equal_one : (w : ℕ) (vs : List ℕ) → variables_differ vs ≡ true → counted (λ v. v == w) vs ≤ 1
equal_one w [] h = omega arith
equal_one w (v ∷ vs) h = by (v == w) refl (list_any (λ u. v == u) vs) refl h (λ k. equal_one w vs k)
  where
    by : (a : Bool) → (v == w) ≡ a → (b : Bool) → list_any (λ u. v == u) vs ≡ b → (not b && variables_differ vs) ≡ true → (variables_differ vs ≡ true → counted (λ v. v == w) vs ≤ 1)
        → (if a then 1 else 0) + counted (λ v. v == w) vs ≤ 1
    by a e true f k rest = absurd (cc)
    by true e false f k rest = let is : v ≡ w = same v w e in let none : counted (λ u. u == w) vs ≡ 0 = equal_none w vs (rw (← is) f) in omega arith
    by false e false f k rest = let inner = rest k in omega arith
