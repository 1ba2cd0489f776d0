-- Lists that are taken from the front while others grow at their ends.
use Rattle.std.proofs.Common.{◌≡◌, ◌<◌, ℕ, zero, suc, ◌+◌, ◌-◌, List, [], ◌∷◌, ◌++◌, Some, length, take, drop, slice_get, slice_set, refl, ap, sym, ◌∙◌, arith, add-one, append_assoc, length-drop}
use Rattle.std.proofs.lemmas.List.{drop-set-lt, take_all}

-- what stands at a place is in front of what stands behind it
pub there : {X : Type 0} (xs : List X) (i : ℕ) (x : X) → slice_get xs i ≡ Some x → drop i xs ≡ x ∷ drop (i + 1) xs
there [] i x h = absurd (cc h)
there (y ∷ ys) zero x h = let same : y ≡ x = cc h in ap (λ z. z ∷ ys) same
there (y ∷ ys) (suc i) x h = rw (add-one (suc i)) (there ys i x h ∙ ap (λ n. x ∷ drop n ys) (add-one i))

pub taken_out : {X : Type 0} (xs ys : List X) (i : ℕ) (x y : X) → slice_get xs i ≡ Some x → ys ≡ slice_set xs i y
    → drop i xs ≡ x ∷ drop (i + 1) ys
taken_out xs ys i x y h e =
    let less : i < i + 1 = omega arith in
    there xs i x h ∙ ap (λ zs. x ∷ zs) (sym (ap (λ zs. drop (i + 1) zs) e ∙ drop-set-lt (i + 1) xs i y less))

-- a queue from which one more is taken

pub take_goes_on : {X : Type 0} (done q r whole : List X) (x : X) (n : ℕ) → 0 < n → q ≡ x ∷ r
    → done ++ take n q ≡ whole → (done ++ x ∷ []) ++ take (n - 1) r ≡ whole
take_goes_on done q r whole x zero l e h = absurd (omega (arith, l))
take_goes_on done q r whole x (suc n) l e h =
    let same : suc n - 1 ≡ n = omega arith in
    rw (same, append_assoc) (ap (λ zs. done ++ take (suc n) zs) (sym e) ∙ h)

pub drop_goes_on : {X : Type 0} (q r whole : List X) (x : X) (n : ℕ) → 0 < n → q ≡ x ∷ r
    → drop n q ≡ whole → drop (n - 1) r ≡ whole
drop_goes_on q r whole x zero l e h = absurd (omega (arith, l))
drop_goes_on q r whole x (suc n) l e h =
    let same : suc n - 1 ≡ n = omega arith in
    rw same (ap (λ zs. drop (suc n) zs) (sym e) ∙ h)

pub take_of_none : {X : Type 0} (n : ℕ) → take {A = X} n [] ≡ []
take_of_none zero = refl
take_of_none (suc n) = refl

pub drop_of_none : {X : Type 0} (n : ℕ) → drop {A = X} n [] ≡ []
drop_of_none zero = refl
drop_of_none (suc n) = refl

pub all_behind : {X : Type 0} (n : ℕ) (xs : List X) → take (length xs) (drop n xs) ≡ drop n xs
all_behind n xs = take_all (length xs) (drop n xs) (omega (arith, length-drop n xs))
