-- Procedures stand one behind the other, and all end where code does.
use Rattle.std.proofs.Common.{◌≡◌, ◌≤◌, ℕ, zero, suc, ◌+◌, ◌^◌, ◌<◌, List, [], ◌∷◌, take, Some, refl, ap, ◌∙◌, arith}
use Rattle.std.specs.Prelude.{slice_get, slice_index}
use Rattle.back_program_code.specs.declared.front.Front.{Front}
use Rattle.back_program_code.specs.declared.shapes.Shape.{Shape}
use Rattle.back_program_code.specs.Joined.{joined}
use Rattle.back_program_code.specs.Shapes.{listed, shape_words, words_of, entry_position, all_entries, code_end, AreLow}
use Rattle.back_program_code.proofs.Joined.{joined_index}

module _ (f : Front) (lefts : List (List ℕ)) where
  pub words_next :
      (from i n j : ℕ) (s : Shape) (ss : List Shape) → n ≡ i + 1 → j ≡ from + i → slice_get ss i ≡ Some s
      → words_of f lefts from (take n ss) ≡ words_of f lefts from (take i ss) + shape_words f (listed (slice_get lefts j)) s
  words_next from i n j s [] e g h = absurd (cc h)
  words_next from i zero j s (y ∷ ys) e g h = absurd (omega (arith, e))
  words_next from zero (suc n) j s (y ∷ ys) e g h =
      let none : n ≡ 0 = omega (arith, e) in
      let there : from ≡ j = omega (arith, g) in
      let same : y ≡ s = cc h in
      ap (λ k. shape_words f (listed (slice_get lefts from)) y + words_of f lefts (from + 1) (take k ys)) none
      ∙ ap (λ k. shape_words f (listed (slice_get lefts k)) y + 0) there ∙ ap (λ z. shape_words f (listed (slice_get lefts j)) z + 0) same ∙ omega arith
  words_next from (suc i) (suc n) j s (y ∷ ys) e g h =
      let k = words_next (from + 1) i n j s ys (omega (arith, e)) (omega (arith, g)) h in
      omega (arith, k)

  pub words_within :
      (from i j : ℕ) (s : Shape) (ss : List Shape) → j ≡ from + i → slice_get ss i ≡ Some s
      → words_of f lefts from (take i ss) + shape_words f (listed (slice_get lefts j)) s ≤ words_of f lefts from ss
  words_within from i j s [] e h = absurd (cc h)
  words_within from zero j s (y ∷ ys) e h =
      let there : from ≡ j = omega (arith, e) in
      let same : y ≡ s = cc h in
      let a = ap (λ k. shape_words f (listed (slice_get lefts k)) y) there in
      let b = ap (λ z. shape_words f (listed (slice_get lefts j)) z) same in
      omega (arith, a, b)
  words_within from (suc i) j s (y ∷ ys) e h =
      let k = words_within (from + 1) i j s ys (omega (arith, e)) h in
      omega (arith, k)

  module _ (ss : List Shape) where
    -- a procedure, from the position of its entry on
    pub entry_is : (number : ℕ) (s : Shape) → slice_get ss number ≡ Some s → slice_index (all_entries f lefts ss) number ≡ entry_position f lefts ss number
    entry_is number s h = joined_index Shape (λ n t. entry_position f lefts ss n) 0 number number s ss (omega arith) h

    pub within :
        (number at : ℕ) (left : List ℕ) (s : Shape) → slice_get ss number ≡ Some s → slice_get lefts number ≡ Some left
        → at ≡ slice_index (all_entries f lefts ss) number → code_end f lefts ss < 2 ^ 24 → at + shape_words f left s < 2 ^ 24
    within number at left s h g e low =
        let w = words_within 0 number number s ss (omega arith) h in
        let i = entry_is number s h in
        let same = ap (λ o. shape_words f (listed o) s) g in
        omega (arith, w, i, same, e, low)

    low_from :
        (from i : ℕ) (make : ℕ → ℕ) (xs : List Shape) → ((k j : ℕ) (s : Shape) → j ≡ from + k → slice_get xs k ≡ Some s → make j < 2 ^ 24)
        → slice_index (joined (λ n s. make n ∷ []) from xs) i < 2 ^ 24
    low_from from i make [] h = omega arith
    low_from from zero make (y ∷ ys) h = h 0 from y (omega arith) refl
    low_from from (suc i) make (y ∷ ys) h = low_from (from + 1) i make ys (λ k j s e g. h (suc k) j s (omega (arith, e)) g)

    pub are_low : code_end f lefts ss < 2 ^ 24 → AreLow (all_entries f lefts ss)
    are_low low n =
        low_from 0 n (entry_position f lefts ss) ss
        (λ k j s e g.
        let same : j ≡ k = omega (arith, e) in
        let w = words_within 0 k k s ss (omega arith) g in
        let here = ap (entry_position f lefts ss) same in
        omega (arith, w, here, low))
