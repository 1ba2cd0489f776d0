-- Names that are added behind two tables with the same texts leave them tables with the same texts.
use Rattle.std.specs.Prelude.{◌≡◌, ℕ, zero, suc, ◌+◌, ◌<◌, Bool, true, false, List, [], ◌∷◌, ◌++◌, Option, Some, None, if◌then◌else◌, length, option_map, slice_get, refl}
use Rattle.std.specs.Str.{bytes_eq}
use Rattle.std.proofs.Common.{arith, ap, sym, ◌∙◌, ⊎_elim, length-append}
use Rattle.base.specs.Names.{slice_get-front}
use Rattle.front_profile.specs.GivenNames.{number_of}
use Rattle.front_laws.specs.Renaming.{Renames}
use Rattle.front_expansions.proofs.Later.{place_in}
use Rattle.front_laws.proofs.RenamedTexts.{FindsNames}

pub get_behind : {X : Type 0} (xs ys : List X) (k : ℕ) → slice_get (xs ++ ys) (length xs + k) ≡ slice_get ys k
get_behind [] ys k = ap (slice_get ys) (omega arith)
get_behind (x ∷ xs) ys k = let e : length (x ∷ xs) + k ≡ suc (length xs + k) = omega arith in ap (slice_get (x ∷ (xs ++ ys))) e ∙ get_behind xs ys k

pub below_length : {X : Type 0} (xs : List X) (n : ℕ) (x : X) → slice_get xs n ≡ Some x → n < length xs
below_length [] n x h = absurd (cc)
below_length (y ∷ ys) zero x h = omega arith
below_length (y ∷ ys) (suc n) x h = omega (arith, below_length ys n x h)

-- ---- the number of a text, in one list behind another

abbrev first : Option ℕ → Option ℕ → Option ℕ
first None o = o
first (Some n) o = Some n

none_in_front : (o : Option ℕ) → o ≡ option_map (λ k. 0 + k) o
none_in_front None = refl
none_in_front (Some k) = ap (λ (n : ℕ). Some n) (omega arith)

one_later : (m : ℕ) (o p : Option ℕ) → option_map (λ k. k + 1) (first o (option_map (λ k. m + k) p)) ≡ first (option_map (λ k. k + 1) o) (option_map (λ k. suc m + k) p)
one_later m (Some n) p = refl
one_later m None None = refl
one_later m None (Some k) = ap (λ (n : ℕ). Some n) (omega arith)

by_first : (b : Bool) (m : ℕ) (n o p : Option ℕ) → n ≡ first o (option_map (λ k. m + k) p) →
    (if b then Some 0 else option_map (λ k. k + 1) n) ≡ first (if b then Some 0 else option_map (λ k. k + 1) o) (option_map (λ k. suc m + k) p)
by_first true m n o p e = refl
by_first false m n o p e = ap (option_map (λ k. k + 1)) e ∙ one_later m o p

number_append : (ts us : List (List ℕ)) (t : List ℕ) → number_of (ts ++ us) t ≡ first (number_of ts t) (option_map (λ k. length ts + k) (number_of us t))
number_append [] us t = none_in_front (number_of us t)
number_append (s ∷ ts) us t = by_first (bytes_eq s t) (length ts) _ (number_of ts t) (number_of us t) (number_append ts us t)

module _ (r : ℕ → ℕ) (old new : List (List ℕ)) (w : Renames r old new) (added : List (List ℕ)) where
  texts_later : (n : ℕ) → slice_get (new ++ added) (r n) ≡ slice_get (old ++ added) n
  texts_later n =
      ⊎_elim
      (λ h. slice_get-front new added (r n) h.0 (w.texts n ∙ h.1) ∙ sym (slice_get-front old added n h.0 h.1))
      (λ h. ap (slice_get (new ++ added)) (ap r h.1 ∙ w.behind h.0) ∙ get_behind new added h.0 ∙ sym (get_behind old added h.0) ∙ ap (slice_get (old ++ added)) (sym h.1))
      (place_in old n)

  back_later : (m : ℕ) (t : List ℕ) → slice_get (new ++ added) m ≡ Some t → (n : ℕ) × (slice_get (old ++ added) n ≡ Some t)
  back_later m t e =
      ⊎_elim
      (λ h. let same : slice_get new m ≡ Some t = h.1 ∙ sym (slice_get-front new added m h.0 h.1) ∙ e in let b = w.back m t same in (b.0, slice_get-front old added b.0 t b.1))
      (λ h. (length old + h.0, get_behind old added h.0 ∙ sym (get_behind new added h.0) ∙ ap (slice_get (new ++ added)) (sym h.1) ∙ e))
      (place_in new m)

  behind_later : (k : ℕ) → r (length (old ++ added) + k) ≡ length (new ++ added) + k
  behind_later k =
      let a : length (old ++ added) + k ≡ length old + (length added + k) = omega (arith, length-append old added) in
      let b : length new + (length added + k) ≡ length (new ++ added) + k = omega (arith, length-append new added) in
      ap r a ∙ w.behind (length added + k) ∙ b

  pub renames_later : Renames r (old ++ added) (new ++ added)
  renames_later = record { once = w.once; texts = texts_later; back = back_later; behind = behind_later }

  first_by : (o p : Option ℕ) → first (option_map r o) (option_map (λ k. length new + k) p) ≡ option_map r (first o (option_map (λ k. length old + k) p))
  first_by (Some n) p = refl
  first_by None None = refl
  first_by None (Some k) = ap (λ (n : ℕ). Some n) (sym (w.behind k))

  pub finds_later : FindsNames r old new → FindsNames r (old ++ added) (new ++ added)
  finds_later f t =
      number_append new added t ∙ ap (λ o. first o (option_map (λ k. length new + k) (number_of added t))) (f t) ∙ first_by (number_of old t) (number_of added t)
      ∙ ap (option_map r) (sym (number_append old added t))
