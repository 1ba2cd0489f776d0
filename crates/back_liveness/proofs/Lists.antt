-- Lists: where a number is found, and what holds of each item.
use Rattle.std.proofs.Common.{◌≡◌, ◌≢◌, ℕ, zero, suc, ◌<◌, ◌≤◌, Bool, true, false, ◌||◌, List, [], ◌∷◌, length, get_or, set, Option, None, refl, sym, ap, subst, ◌∙◌, arith, eqb-true, eq-eqb, inl, inr, get_or-set_other, get_or-set_same}
use Rattle.std.specs.Prelude.{◌==◌, ◌⊎◌}
use Rattle.std.specs.List.{list_any}
use Rattle.std.proofs.lemmas.List.Folds.{list_any_at}
use Rattle.back_liveness.specs.declared.step.Interval.{Interval}
use Rattle.back_liveness.specs.Points.{EndsBy, EndBy}

pub or_back : (a b : Bool) → b ≡ true → (a || b) ≡ true
or_back true b h = refl
or_back false b h = h

first_or_later :
    (v x : ℕ) (xs : List ℕ) → list_any (λ r. r == v) (x ∷ xs) ≡ true
    → (list_any (λ r. r == v) xs ≡ true → (j : ℕ) × (j < length xs) × (get_or xs j 0 ≡ v)) → (b : Bool) → (x == v) ≡ b
    → (j : ℕ) × (j < length (x ∷ xs)) × (get_or (x ∷ xs) j 0 ≡ v)
first_or_later v x xs h later true e = (0, omega arith, eqb-true x v e)
first_or_later v x xs h later false e =
    let more = later (subst (λ b. (b || list_any (λ r. r == v) xs) ≡ true) e h) in
    (suc more.0, omega (arith, more.1), more.2)

-- a test that some item passes is passed at some place
pub any_index : (v : ℕ) (xs : List ℕ) → list_any (λ r. r == v) xs ≡ true → (j : ℕ) × (j < length xs) × (get_or xs j 0 ≡ v)
any_index v [] h = absurd (cc h)
any_index v (x ∷ xs) h = first_or_later v x xs h (λ k. any_index v xs k) (x == v) refl

pub same_or_other : (v k : ℕ) → (v ≡ k) ⊎ (v ≢ k)
same_or_other v k = by (v == k) refl
  where
    by : (b : Bool) → (v == k) ≡ b → (v ≡ k) ⊎ (v ≢ k)
    by true e = inl (eqb-true v k e)
    by false e = inr (λ q. absurd (cc (e, eq-eqb v k q)))

-- an interval is written that ends by a line too
pub ends_set :
    (n : ℕ) (hulls : List (Option Interval)) (r : ℕ) (i : Option Interval) → r < length hulls → EndsBy n i → EndBy n hulls
    → EndBy n (set hulls r i)
ends_set n hulls r i h ends all v =
    elim (same_or_other v r) [
      | inl e ↦ subst (λ k. EndsBy n (get_or (set hulls r i) k None)) (sym e) (rw get_or-set_same ends)
      | inr ne ↦ rw get_or-set_other (all v)
    ]

-- a number that is greater than one stands in the list
pub beyond : (xs : List ℕ) (h t : ℕ) → h < t → t ≤ get_or xs h 0 → h < length xs
beyond [] h t above below = absurd (omega (arith, above, below))
beyond (x ∷ xs) zero t above below = omega arith
beyond (x ∷ xs) (suc h) t above below =
    let more = beyond xs h (suc h) (omega arith) (omega (arith, above, below)) in omega (arith, more)

-- what some item passes holds of some item
first_where :
    (p : ℕ → Bool) (x : ℕ) (xs : List ℕ) → list_any p (x ∷ xs) ≡ true
    → (list_any p xs ≡ true → (t : ℕ) × (list_any (λ r. r == t) xs ≡ true) × (p t ≡ true)) → (b : Bool) → p x ≡ b
    → (t : ℕ) × (list_any (λ r. r == t) (x ∷ xs) ≡ true) × (p t ≡ true)
first_where p x xs h later true e = (x, ap (λ b. b || list_any (λ r. r == x) xs) (eq-eqb x x refl), e)
first_where p x xs h later false e =
    let more = later (subst (λ b. (b || list_any p xs) ≡ true) e h) in
    (more.0, or_back (x == more.0) (list_any (λ r. r == more.0) xs) more.1, more.2)

pub any_where : (p : ℕ → Bool) (xs : List ℕ) → list_any p xs ≡ true → (t : ℕ) × (list_any (λ r. r == t) xs ≡ true) × (p t ≡ true)
any_where p [] h = absurd (cc h)
any_where p (x ∷ xs) h = first_where p x xs h (any_where p xs) (p x) refl

-- and the other way round
pub where_any : (p : ℕ → Bool) (t : ℕ) (xs : List ℕ) → list_any (λ r. r == t) xs ≡ true → p t ≡ true → list_any p xs ≡ true
where_any p t xs h e =
    let f = any_index t xs h in
    list_any_at p xs f.0 0 f.1 (ap p f.2 ∙ e)
