-- What is left, counted from one line more on.
use Rattle.std.proofs.Common.{◌≡◌, ◌≤◌, ◌^◌, ℕ, zero, suc, ◌+◌, ◌-◌, ◌<◌, Bool, List, [], ◌∷◌, length, drop, replicate, Some, refl, sym, ap, subst, ◌∙◌, arith, length-set}
use Rattle.std.proofs.lemmas.List.{length-replicate}
use Rattle.std.specs.Prelude.{slice_get, slice_index, slice_set}
use Rattle.mid_lines.specs.declared.line.Line.{Line}
use Rattle.back_places.specs.declared.place.Place.{Place}
use Rattle.back_emit.specs.declared.spots.Sizing.{Sizing}
use Rattle.back_emit.specs.declared.ways.FrameWay.{FrameWay}
use Rattle.back_emit.specs.PlacedSizes.{placed_line_size, with_placed_line, placed_rests}

drop_set : (xs : List ℕ) (i v : ℕ) → i < length xs → drop i (slice_set xs i v) ≡ v ∷ drop (suc i) xs
drop_set [] i v h = absurd (omega (arith, h))
drop_set (x ∷ xs) zero v h = refl
drop_set (x ∷ xs) (suc i) v h = drop_set xs i v (omega (arith, h))

drop_there : (xs : List Line) (i : ℕ) (x : Line) → slice_get xs i ≡ Some x → drop i xs ≡ x ∷ drop (suc i) xs
drop_there [] i x h = absurd (cc h)
drop_there (y ∷ ys) zero x h = let same : y ≡ x = cc h in ap (λ z. z ∷ ys) same
drop_there (y ∷ ys) (suc i) x h = drop_there ys i x h

pub index_drop : (xs : List ℕ) (i : ℕ) → slice_index (drop i xs) 0 ≡ slice_index xs i
index_drop [] zero = refl
index_drop [] (suc i) = refl
index_drop (x ∷ xs) zero = refl
index_drop (x ∷ xs) (suc i) = index_drop xs i

pub index_drop_more : (xs : List ℕ) (i j n : ℕ) → n ≡ i + j → slice_index (drop i xs) j ≡ slice_index xs n
index_drop_more xs zero j n e = let same : j ≡ n = omega (arith, e) in ap (λ k. slice_index xs k) same
index_drop_more [] (suc i) j n e = refl
index_drop_more (x ∷ xs) (suc i) j zero e = absurd (omega (arith, e))
index_drop_more (x ∷ xs) (suc i) j (suc n) e = index_drop_more xs i j n (omega (arith, e))

drop_zeros : (n m : ℕ) → m ≡ n + 1 → drop {A = ℕ} n (replicate m 0) ≡ 0 ∷ []
drop_zeros n zero e = absurd (omega (arith, e))
drop_zeros zero (suc m) e = let none : m ≡ 0 = omega (arith, e) in ap (λ k. 0 ∷ replicate k 0) none
drop_zeros (suc n) (suc m) e = drop_zeros n m (omega (arith, e))

drop_all_lines : (xs : List Line) → drop (length xs) xs ≡ []
drop_all_lines [] = refl
drop_all_lines (x ∷ xs) = drop_all_lines xs

module _ (places : List Place) (z : Sizing) (ways : List FrameWay) (nears : List Bool) (lines : List Line) where
  -- from a line on, what is left is counted
  pub record IsCounted (from : ℕ) (lefts : List ℕ) : Type 0 where
    pub long : length lefts ≡ length lines + 1
    pub counted : drop from lefts ≡ placed_rests places z ways nears from (drop from lines)

  pub begun : (from : ℕ) (lefts : List ℕ) → from ≡ length lines → lefts ≡ replicate (length lines + 1) 0 → IsCounted from lefts
  begun from lefts e is = record {
    long = ap length is ∙ length-replicate (length lines + 1) 0;
    counted =
        ap (λ i. drop i lefts) e ∙ ap (λ xs. drop (length lines) xs) is ∙ drop_zeros (length lines) (length lines + 1) refl
        ∙ ap (λ xs. placed_rests places z ways nears (length lines) xs) (sym (drop_all_lines lines)) ∙ ap (λ i. placed_rests places z ways nears i (drop i lines)) (sym e);
  }

  pub one_more :
      (from at words left : ℕ) (x : Line) (lefts lefts' : List ℕ) → from ≡ at + 1 → slice_get lines at ≡ Some x → at < length lines
      → words ≡ placed_line_size places z ways nears at x (drop (at + 1) lefts) → left ≡ slice_index lefts (at + 1)
      → lefts' ≡ slice_set lefts at (left + words) → IsCounted from lefts → IsCounted at lefts'
  one_more from at words left x lefts lefts' e there within w l is h =
      let next : suc at ≡ from = omega (arith, e) in
      let next_one : at + 1 ≡ suc at = omega arith in
      let plus : at + 1 ≡ from = sym e in
      let rest = h.counted in
      let long = h.long in
      let r = placed_rests places z ways nears from (drop from lines) in
      record {
        long = ap length is ∙ length-set lefts at (left + words) ∙ h.long;
        counted =
            ap (drop at) is ∙ drop_set lefts at (left + words) (omega (arith, within, long))
            ∙ ap (λ i. (left + words) ∷ drop i lefts) next
            ∙ ap (λ q. (left + words) ∷ q) rest
            ∙ ap (λ n. (n + words) ∷ r) (l ∙ ap (slice_index lefts) plus ∙ sym (index_drop lefts from) ∙ ap (λ q. slice_index q 0) rest)
            ∙ ap (λ n. (slice_index r 0 + n) ∷ r) (w ∙ ap (λ i. placed_line_size places z ways nears at x (drop i lefts)) plus ∙ ap (placed_line_size places z ways nears at x) rest)
            ∙ ap (λ i. with_placed_line places z ways nears at x (placed_rests places z ways nears i (drop i lines))) e
            ∙ ap (λ i. with_placed_line places z ways nears at x (placed_rests places z ways nears (at + 1) (drop i lines))) next_one
            ∙ ap (placed_rests places z ways nears at) (sym (drop_there lines at x there));
      }

  pub one_more_of :
      (n k words left : ℕ) (x : Line) (lefts lefts' : List ℕ) → n ≡ length lines → k < n → slice_get lines (n - 1 - k) ≡ Some x
      → words ≡ placed_line_size places z ways nears (n - 1 - k) x (drop (n - 1 - k + 1) lefts) → left ≡ slice_index lefts (n - 1 - k + 1)
      → lefts' ≡ slice_set lefts (n - 1 - k) (left + words) → IsCounted (length lines - k) lefts → IsCounted (length lines - (k + 1)) lefts'
  one_more_of n k words left x lefts lefts' e below there w l is h =
      let here : n - 1 - k ≡ length lines - (k + 1) = omega (arith, e) in
      let from : length lines - k ≡ n - 1 - k + 1 = omega (arith, e, below) in
      subst (λ i. IsCounted i lefts') here (one_more (length lines - k) (n - 1 - k) words left x lefts lefts' from there (omega (arith, e, below)) w l is h)

  pub ended : (from : ℕ) (lefts : List ℕ) → from ≡ 0 → IsCounted from lefts → lefts ≡ placed_rests places z ways nears 0 lines
  ended from lefts e h = ap (λ i. drop i lefts) (sym e) ∙ h.counted ∙ ap (λ i. placed_rests places z ways nears i (drop i lines)) e

-- what is left from a line on is part of what is left from the first one on

rests_fall :
    (places : List Place) (z : Sizing) (ways : List FrameWay) (nears : List Bool) (from i j : ℕ) (xs : List Line) → j ≡ from + i
    → slice_index (placed_rests places z ways nears j (drop i xs)) 0 ≤ slice_index (placed_rests places z ways nears from xs) 0
rests_fall places z ways nears from zero j xs e = let same : j ≡ from = omega (arith, e) in omega (arith, ap (λ k. slice_index (placed_rests places z ways nears k xs) 0) same)
rests_fall places z ways nears from (suc i) j [] e = omega arith
rests_fall places z ways nears from (suc i) j (x ∷ xs) e =
    let k = rests_fall places z ways nears (from + 1) i j xs (omega (arith, e)) in
    omega (arith, k)

module _ (places : List Place) (z : Sizing) (ways : List FrameWay) (nears : List Bool) (lines : List Line) where
  -- where so many words are left behind a line, or it has so many
  long_rest :
      (from at : ℕ) (lefts : List ℕ) → from ≡ at + 1 → IsCounted places z ways nears lines from lefts → 2 ^ 24 ≤ slice_index lefts (at + 1)
      → 2 ^ 24 ≤ slice_index (placed_rests places z ways nears 0 lines) 0
  long_rest from at lefts e h long =
      let here = ap (slice_index lefts) e in
      let first = index_drop lefts from in
      let counted = ap (λ r. slice_index r 0) h.counted in
      let fall = rests_fall places z ways nears 0 from from lines (omega arith) in
      omega (arith, here, first, counted, fall, long)

  long_line :
      (from at : ℕ) (x : Line) (lefts : List ℕ) → from ≡ at + 1 → slice_get lines at ≡ Some x → IsCounted places z ways nears lines from lefts
      → 2 ^ 24 ≤ placed_line_size places z ways nears at x (drop (at + 1) lefts) → 2 ^ 24 ≤ slice_index (placed_rests places z ways nears 0 lines) 0
  long_line from at x lefts e there h long =
      let next : suc at ≡ from = omega (arith, e) in
      let next_one : at + 1 ≡ from = omega (arith, e) in
      let rest : drop (at + 1) lefts ≡ placed_rests places z ways nears from (drop from lines) = ap (λ i. drop i lefts) next_one ∙ h.counted in
      let size = ap (placed_line_size places z ways nears at x) rest in
      let here : placed_rests places z ways nears at (drop at lines) ≡ with_placed_line places z ways nears at x (placed_rests places z ways nears from (drop from lines)) =
      ap (placed_rests places z ways nears at) (drop_there lines at x there)
      ∙ ap (λ i. with_placed_line places z ways nears at x (placed_rests places z ways nears (at + 1) (drop i lines))) next
      ∙ ap (λ i. with_placed_line places z ways nears at x (placed_rests places z ways nears i (drop from lines))) next_one in
      let first = ap (λ r. slice_index r 0) here in
      let fall = rests_fall places z ways nears 0 at at lines (omega arith) in
      omega (arith, size, first, fall, long)

  pub long_rest_of :
      (n k : ℕ) (lefts : List ℕ) → n ≡ length lines → k < n → IsCounted places z ways nears lines (length lines - k) lefts → 2 ^ 24 ≤ slice_index lefts (n - 1 - k + 1)
      → 2 ^ 24 ≤ slice_index (placed_rests places z ways nears 0 lines) 0
  long_rest_of n k lefts e below h long = long_rest (length lines - k) (n - 1 - k) lefts (omega (arith, e, below)) h long

  pub long_line_of :
      (n k : ℕ) (x : Line) (lefts : List ℕ) → n ≡ length lines → k < n → slice_get lines (n - 1 - k) ≡ Some x → IsCounted places z ways nears lines (length lines - k) lefts
      → 2 ^ 24 ≤ placed_line_size places z ways nears (n - 1 - k) x (drop (n - 1 - k + 1) lefts) → 2 ^ 24 ≤ slice_index (placed_rests places z ways nears 0 lines) 0
  long_line_of n k x lefts e below there h long = long_line (length lines - k) (n - 1 - k) x lefts (omega (arith, e, below)) there h long
