-- A renaming from a table of names to a later one: each name keeps its number, and numbers of no name move behind the
-- later table, so all keep their texts.
use Rattle.std.specs.Prelude.{◌≡◌, ℕ, zero, suc, ◌+◌, ◌<◌, ◌≤◌, ◌⊎◌, List, [], ◌∷◌}
use Rattle.std.specs.Prelude.{Option, Some, None, length, slice_get, refl}
use Rattle.std.proofs.Common.{arith, ap, sym, ◌∙◌, inl, inr, ⊎_elim, length-append}
use Rattle.std.proofs.lemmas.Option.{slice_get_past}
use Rattle.base.specs.Names.{Extends, text_stays}
use Rattle.lang_renamed.specs.Renaming.{KeepsTexts}
use Rattle.lang_renamed.proofs.Starting.{text_by}

-- a number is one of a list, or one behind it
pub place_in :
    {X : Type 0} (xs : List X) (n : ℕ) → ((x : X) × (slice_get xs n ≡ Some x)) ⊎ ((k : ℕ) × (n ≡ length xs + k))
place_in [] n = inr (n, omega arith)
place_in (x ∷ xs) zero = inl (x, refl)
place_in (x ∷ xs) (suc n) =
    ⊎_elim (λ h. inl h) (λ h. let e : n ≡ length xs + h.0 = h.1 in inr (h.0, omega (arith, e))) (place_in xs n)

abbrev number_at : ℕ → ℕ → Option (List ℕ) → ℕ
number_at m n (Some t) = n
number_at m n None = n + m

abbrev apart : (a : List (List ℕ)) → ℕ → ℕ → ℕ
apart a m n = number_at m n (slice_get a n)

module _ (a b : List (List ℕ)) (e : Extends a b) where
  abbrev pub moves : ℕ → ℕ
  moves = apart a (length e.added)

  pub stays_there : (n : ℕ) → n < length a → moves n ≡ n
  stays_there n h =
      ⊎_elim
      (λ x. ap (number_at (length e.added) n) x.1)
      (λ x. let i : n ≡ length a + x.0 = x.1 in absurd (omega (arith, h, i)))
      (place_in a n)

  longer_by : length b ≡ length a + length e.added
  longer_by = ap (λ (ts : List (List ℕ)). length ts) e.begins ∙ length-append a e.added

  pub keeps : (n : ℕ) → slice_get b (moves n) ≡ slice_get a n
  keeps n =
      ⊎_elim
      (λ x. ap (λ o. slice_get b (number_at (length e.added) n o)) x.1 ∙ text_stays a b n x.0 e x.1 ∙ sym x.1)
      (λ x.
      let i : n ≡ length a + x.0 = x.1 in
      let none : slice_get a n ≡ None = slice_get_past a n (omega (arith, i)) in
      let past : length b ≤ n + length e.added = omega (arith, i, longer_by) in
      ap (λ o. slice_get b (number_at (length e.added) n o)) none
      ∙ slice_get_past b (n + length e.added) past
      ∙ sym none)
      (place_in a n)

  pub keeps_texts : KeepsTexts moves a b
  keeps_texts n = text_by a b (moves n) n (keeps n)
