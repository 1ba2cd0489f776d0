-- Lists and what stands at a place of them: what a step adds or changes.
use Rattle.std.proofs.Common.{◌≡◌, ℕ, zero, suc, ◌+◌, ◌==◌, ◌<◌, Bool, true, false, T, take, subst, List, [], ◌∷◌, ◌++◌, refl, ap, ◌∙◌, ◌⊎◌, inl, inr, ⊎_elim, Option, Some, length, arith}
use Rattle.std.proofs.lemmas.Bool.{eqb-true}
use Rattle.std.proofs.Math.Dec.{eqb_refl}
use Rattle.std.specs.List.{range_with_len}
use Rattle.std.specs.Prelude.{slice_get, slice_set}

-- options that are the same have the same item
pub some_same : {X : Type 0} {x y : X} → Some x ≡ Some y → x ≡ y
some_same {X} {x} {y} h = cc h

-- a test of two numbers, with what it says
pub equal_or_not : {C : Type 0} (m n : ℕ) → (m ≡ n → (m == n) ≡ true → C) → ((m == n) ≡ false → C) → C
equal_or_not {C} m n alike apart = by (m == n) refl
  where
    by : (b : Bool) → (m == n) ≡ b → C
    by true h = alike (eqb-true m n h) h
    by false h = apart h

-- numbers that a test tells apart are not the same
pub unequal : (m n : ℕ) → (m == n) ≡ false → m ≡ n → ⊥
unequal m n h e = subst T h (subst (λ i. T (m == i)) e (eqb_refl m))

-- two numbers are the same, or not
pub same_or_not : {C : Type 0} (m n : ℕ) → (m ≡ n → C) → ((m ≡ n → ⊥) → C) → C
same_or_not m n alike apart = equal_or_not m n (λ e t. alike e) (λ f. apart (unequal m n f))

-- lists of one length, each with one more at its end
pub pushed : {X Y : Type 0} (P : Option X → Option Y → Type 0) (xs : List X) (ys : List Y) (x : X) (y : Y) (i : ℕ)
    → length ys ≡ length xs
    → (i ≡ length xs → P (Some x) (Some y)) → ((i ≡ length xs → ⊥) → P (slice_get xs i) (slice_get ys i))
    → P (slice_get (xs ++ x ∷ []) i) (slice_get (ys ++ y ∷ []) i)
pushed P [] [] x y zero e new old = new refl
pushed P [] [] x y (suc i) e new old = old (λ h. cc h)
pushed P [] (b ∷ ys) x y i e new old = absurd (cc e)
pushed P (a ∷ xs) [] x y i e new old = absurd (cc e)
pushed P (a ∷ xs) (b ∷ ys) x y zero e new old = old (λ h. cc h)
pushed P (a ∷ xs) (b ∷ ys) x y (suc i) e new old =
    pushed P xs ys x y i (omega (arith, e)) (λ h. new (ap suc h)) (λ h. old (λ g. h (omega (arith, g))))

-- one place is changed in both
pub changed_both : {X : Type 0} (P : Option X → Option X → Type 0) (xs ys : List X) (i j : ℕ) (x : X)
    → length ys ≡ length xs → P (Some x) (Some x) → P (slice_get xs j) (slice_get ys j)
    → P (slice_get (slice_set xs i x) j) (slice_get (slice_set ys i x) j)
changed_both P [] [] i j x e new old = old
changed_both P [] (b ∷ ys) i j x e new old = absurd (cc e)
changed_both P (a ∷ xs) [] i j x e new old = absurd (cc e)
changed_both P (a ∷ xs) (b ∷ ys) zero zero x e new old = new
changed_both P (a ∷ xs) (b ∷ ys) zero (suc j) x e new old = old
changed_both P (a ∷ xs) (b ∷ ys) (suc i) zero x e new old = old
changed_both P (a ∷ xs) (b ∷ ys) (suc i) (suc j) x e new old =
    changed_both P xs ys i j x (omega (arith, e)) new old

-- another place than the changed one
pub other_place : {X : Type 0} (xs : List X) (i j : ℕ) (x : X) → (j ≡ i → ⊥) → slice_get (slice_set xs i x) j ≡ slice_get xs j
other_place [] i j x h = refl
other_place (a ∷ xs) zero zero x h = absurd (h refl)
other_place (a ∷ xs) zero (suc j) x h = refl
other_place (a ∷ xs) (suc i) zero x h = refl
other_place (a ∷ xs) (suc i) (suc j) x h = other_place xs i j x (λ e. h (ap suc e))

-- the changed place itself
pub changed_place : {X : Type 0} (xs : List X) (i : ℕ) (old now : X) → slice_get xs i ≡ Some old → slice_get (slice_set xs i now) i ≡ Some now
changed_place [] i old now h = absurd (cc h)
changed_place (a ∷ xs) zero old now h = refl
changed_place (a ∷ xs) (suc i) old now h = changed_place xs i old now h

pub length-changed : {X : Type 0} (xs : List X) (i : ℕ) (x : X) → length (slice_set xs i x) ≡ length xs
length-changed [] i x = refl
length-changed (a ∷ xs) zero x = refl
length-changed (a ∷ xs) (suc i) x = ap suc (length-changed xs i x)

-- in front of more items, and behind a list
pub in_front : {X : Type 0} (xs ys : List X) (i : ℕ) (x : X) → slice_get xs i ≡ Some x → slice_get (xs ++ ys) i ≡ Some x
in_front [] ys i x h = absurd (cc h)
in_front (a ∷ xs) ys zero x h = h
in_front (a ∷ xs) ys (suc i) x h = in_front xs ys i x h

pub behind : {X : Type 0} (xs ys : List X) (i : ℕ) → slice_get (xs ++ ys) (length xs + i) ≡ slice_get ys i
behind [] ys i = let e : 0 + i ≡ i = omega arith in ap (λ n. slice_get ys n) e
behind (x ∷ xs) ys i =
    let e : suc (length xs) + i ≡ suc (length xs + i) = omega arith in
    ap (λ n. slice_get (x ∷ (xs ++ ys)) n) e ∙ behind xs ys i

-- behind a list of a known length
pub behind_all : {X : Type 0} (xs ys : List X) (n i : ℕ) → length xs ≡ n → slice_get (xs ++ ys) (n + i) ≡ slice_get ys i
behind_all xs ys n i e = subst (λ m. slice_get (xs ++ ys) (m + i) ≡ slice_get ys i) e (behind xs ys i)

-- an item of two lists is of one of them
pub record IsBehind {X : Type 0} (xs ys : List X) (i : ℕ) (x : X) : Type 0 where
  pub at : ℕ
  pub place : i ≡ length xs + at
  pub item : slice_get ys at ≡ Some x

pub of_either : {X : Type 0} (xs ys : List X) (i : ℕ) (x : X) → slice_get (xs ++ ys) i ≡ Some x
    → (slice_get xs i ≡ Some x) ⊎ IsBehind xs ys i x
of_either [] ys i x h = inr (record { at = i; place = omega arith; item = h })
of_either (a ∷ xs) ys zero x h = inl h
of_either (a ∷ xs) ys (suc i) x h =
    ⊎_elim (λ e. inl e) (λ q. inr (record { at = q.at; place = let p : i ≡ length xs + q.at = q.place in omega (arith, p); item = q.item })) (of_either xs ys i x h)

-- something stands at each place of a list
pub record IsThere {X : Type 0} (xs : List X) (i : ℕ) : Type 0 where
  pub item : X
  pub there : slice_get xs i ≡ Some item

pub is_there : {X : Type 0} (xs : List X) (i : ℕ) → i < length xs → IsThere xs i
is_there [] i h = absurd (omega (arith, h))
is_there (x ∷ xs) zero h = record { item = x; there = refl }
is_there (x ∷ xs) (suc i) h =
    let rest : IsThere xs i = is_there xs i (omega (arith, h)) in record { item = rest.item; there = rest.there }

-- what stands in a list stands among its first items, if they are enough
pub among_first : {X : Type 0} (xs : List X) (n i : ℕ) (x : X) → i < n → slice_get xs i ≡ Some x → slice_get (take n xs) i ≡ Some x
among_first [] zero i x l h = absurd (cc h)
among_first [] (suc n) i x l h = absurd (cc h)
among_first (a ∷ xs) zero i x l h = absurd (omega (arith, l))
among_first (a ∷ xs) (suc n) zero x l h = h
among_first (a ∷ xs) (suc n) (suc i) x l h = among_first xs n i x (omega (arith, l)) h

-- consecutive numbers count from the first
pub in_range : (i n m l : ℕ) → slice_get (range_with_len i n) m ≡ Some l → l ≡ i + m
in_range i zero m l h = absurd (cc h)
in_range i (suc n) zero l h = let e : i ≡ l = cc h in omega (arith, e)
in_range i (suc n) (suc m) l h = let e : l ≡ (i + 1) + m = in_range (i + 1) n m l h in omega (arith, e)

-- so many consecutive numbers
pub length-range : (i n : ℕ) → length (range_with_len i n) ≡ n
length-range i zero = refl
length-range i (suc n) = ap suc (length-range (i + 1) n)
