-- Of each group the first one is found by its number.
use Rattle.std.proofs.Common.{◌≡◌, ◌⊎◌, inl, inr, ⊎_elim, ℕ, zero, suc, ◌+◌, ◌*◌, ◌<◌, ◌≤◌, Bool, true, false, List, [], ◌∷◌, ◌++◌, length, Some, refl, sym, ◌∙◌, ap, arith}
use Rattle.std.specs.Prelude.{◌||◌, not, cond, slice_get, if◌then◌else◌}
use Rattle.std.specs.List.{list_any, range_with_len}
use Rattle.std.specs.Str.{bytes_eq}
use Rattle.std.proofs.lemmas.Slice.Eq.{bytes_eq-Decides}
use Rattle.std.proofs.lemmas.Option.{slice_get-get_or}
use Rattle.std.proofs.lemmas.List.FromFn.{length-range_with_len, get_or-range_with_len}
use Rattle.lang_meaning.specs.Cells.{one_of_each}
use Rattle.back_words.specs.Variables.{number_among}

-- the first one of the group of another one
pub record Found (group : ℕ → List ℕ) (firsts : List ℕ) (n : ℕ) : Type 0 where
  pub first : ℕ
  pub there : slice_get firsts (number_among group firsts n) ≡ Some first
  pub same : group first ≡ group n

-- whether one is of the group
abbrev alike : (group : ℕ → List ℕ) → ℕ → ℕ → Bool
alike group n d = bytes_eq (group n) (group d)

alike_is : (group : ℕ → List ℕ) (n d : ℕ) → alike group n d ≡ true → group n ≡ group d
alike_is group n d e = (bytes_eq-Decides (group n) (group d)).0 e

alike_itself : (group : ℕ → List ℕ) (n : ℕ) → alike group n n ≡ true
alike_itself group n = (bytes_eq-Decides (group n) (group n)).1 refl

number_here : (group : ℕ → List ℕ) (x n : ℕ) (xs : List ℕ) (b : Bool) → alike group n x ≡ b
    → number_among group (x ∷ xs) n ≡ (if not b then 1 + number_among group xs n else 0)
number_here group x n xs b e = ap (λ c. if not c then 1 + number_among group xs n else 0) e

-- where one is of the group
pub any_found : (group : ℕ → List ℕ) (firsts : List ℕ) (n : ℕ) → list_any (alike group n) firsts ≡ true → Found group firsts n
any_found group [] n h = absurd (cc h)
any_found group (x ∷ xs) n h = by (alike group n x) refl (λ later. any_found group xs n later)
  where
    by : (b : Bool) → alike group n x ≡ b → (list_any (alike group n) xs ≡ true → Found group xs n) → Found group (x ∷ xs) n
    by true e more =
        let at : number_among group (x ∷ xs) n ≡ 0 = number_here group x n xs true e in
        record { first = x; there = ap (slice_get (x ∷ xs)) at; same = sym (alike_is group n x e) }
    by false e more =
        let at : number_among group (x ∷ xs) n ≡ suc (number_among group xs n) = number_here group x n xs false e ∙ omega arith in
        let rest = more (sym (ap (λ b. b || list_any (alike group n) xs) e) ∙ h) in
        record { first = rest.first; there = ap (slice_get (x ∷ xs)) at ∙ rest.there; same = rest.same }

-- where the number is below how many there are
pub below_found : (group : ℕ → List ℕ) (firsts : List ℕ) (n : ℕ) → number_among group firsts n < length firsts → Found group firsts n
below_found group [] n h = absurd (omega arith)
below_found group (x ∷ xs) n h = by (alike group n x) refl (λ later. below_found group xs n later)
  where
    by : (b : Bool) → alike group n x ≡ b → (number_among group xs n < length xs → Found group xs n) → Found group (x ∷ xs) n
    by true e more =
        let at : number_among group (x ∷ xs) n ≡ 0 = number_here group x n xs true e in
        record { first = x; there = ap (slice_get (x ∷ xs)) at; same = sym (alike_is group n x e) }
    by false e more =
        let at : number_among group (x ∷ xs) n ≡ suc (number_among group xs n) = number_here group x n xs false e ∙ omega arith in
        let rest = more (omega (arith, at, h)) in
        record { first = rest.first; there = ap (slice_get (x ∷ xs)) at ∙ rest.there; same = rest.same }

any_behind : (p : ℕ → Bool) (s : Bool) (c : ℕ) (ys : List ℕ) → list_any p ys ≡ true → list_any p ((if s then [] else c ∷ []) ++ ys) ≡ true
any_behind p true c ys h = h
any_behind p false c ys h = by (p c)
  where
    by : (b : Bool) → (b || list_any p ys) ≡ true
    by true = refl
    by false = h

-- what was seen before, or is found
one_any : (group : ℕ → List ℕ) (seen cs : List ℕ) (n : ℕ) → list_any (alike group n) cs ≡ true
    → (list_any (alike group n) seen ≡ true) ⊎ (list_any (alike group n) (one_of_each group seen cs) ≡ true)
one_any group seen [] n h = absurd (cc h)
one_any group seen (c ∷ cs) n h = by (alike group n c) refl (λ later. one_any group (c ∷ seen) cs n later)
  where
    seen_before : Bool
    seen_before = list_any (alike group c) seen

    by_seen : (s : Bool) → list_any (alike group c) seen ≡ s → alike group n c ≡ true
        → (list_any (alike group n) seen ≡ true) ⊎ (list_any (alike group n) ((if s then [] else c ∷ []) ++ one_of_each group (c ∷ seen) cs) ≡ true)
    by_seen true k e = inl (ap (λ g. list_any (λ d. bytes_eq g (group d)) seen) (alike_is group n c e) ∙ k)
    by_seen false k e = inr (ap (λ b. b || list_any (alike group n) (one_of_each group (c ∷ seen) cs)) e)

    by : (b : Bool) → alike group n c ≡ b
        → (list_any (alike group n) cs ≡ true → (list_any (alike group n) (c ∷ seen) ≡ true) ⊎ (list_any (alike group n) (one_of_each group (c ∷ seen) cs) ≡ true))
        → (list_any (alike group n) seen ≡ true) ⊎ (list_any (alike group n) (one_of_each group seen (c ∷ cs)) ≡ true)
    by true e more = by_seen seen_before refl e
    by false e more =
        ⊎_elim
        (λ (old : list_any (alike group n) (c ∷ seen) ≡ true). inl (sym (ap (λ b. b || list_any (alike group n) seen) e) ∙ old))
        (λ (new : list_any (alike group n) (one_of_each group (c ∷ seen) cs) ≡ true).
        inr (any_behind (alike group n) seen_before c (one_of_each group (c ∷ seen) cs) new))
        (more (sym (ap (λ b. b || list_any (alike group n) cs) e) ∙ h))

pub or_true : (a b : Bool) → b ≡ true → (a || b) ≡ true
or_true true b h = refl
or_true false b h = h

any_there : (group : ℕ → List ℕ) (cs : List ℕ) (i n : ℕ) → slice_get cs i ≡ Some n → list_any (alike group n) cs ≡ true
any_there group [] i n e = absurd (cc e)
any_there group (c ∷ cs) zero n e =
    let same : c ≡ n = cc e in
    ap (λ b. b || list_any (alike group n) cs) (ap (alike group n) same ∙ alike_itself group n)
any_there group (c ∷ cs) (suc i) n e = or_true (alike group n c) (list_any (alike group n) cs) (any_there group cs i n e)

none_true : false ≡ true → ⊥
none_true e = cc e

-- **each one of the list has a first one of its group**
pub one_found : (group : ℕ → List ℕ) (cs : List ℕ) (i n : ℕ) → slice_get cs i ≡ Some n → Found group (one_of_each group [] cs) n
one_found group cs i n e =
    any_found group (one_of_each group [] cs) n
    (⊎_elim (λ (old : list_any (alike group n) [] ≡ true). absurd (none_true old)) (λ new. new) (one_any group [] cs n (any_there group cs i n e)))

-- the numbers below one, each at its place
pub in_range : (m n : ℕ) → n < m → slice_get (range_with_len 0 m) n ≡ Some n
in_range m n h =
    slice_get-get_or (range_with_len 0 m) n 0 (omega (arith, length-range_with_len 0 m))
    ∙ ap (λ k. Some k) (get_or-range_with_len 0 m n 0 h ∙ (let e : 0 + n ≡ n = omega arith in e))
