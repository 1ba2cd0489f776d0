-- Registers that are each counted once, by flags of those that were met; and how many are enough.
use Rattle.std.proofs.Common.{◌≡◌, ℕ, zero, suc, ◌+◌, ◌<◌, ◌≤◌, max, Bool, true, false, List, [], ◌∷◌, ◌++◌, length, drop, Some, slice_get, slice_index_or, if◌then◌else◌, refl, sym, ◌∙◌, ap, subst, arith}
use Rattle.std.proofs.Math.Nat.{le-max_left, le-max_right}
use Rattle.std.proofs.lemmas.List.{drop_all}
use Rattle.base.specs.model.DataRest.{rest_at}
use Rattle.lang_meaning.specs.Lookup.{is_in}
use Rattle.lang_meaning.specs.Reached.{once}
use Rattle.back_lowering.specs.Registers.{enough_for}
use Rattle.lang_rows.specs.Marked.{AreFlags, AreMarked}
use Rattle.lang_rows.proofs.Marking.{flags_marked}

-- ---- how many registers are enough

pub below_enough : (rs : List ℕ) (i r : ℕ) → slice_get rs i ≡ Some r → r < enough_for rs
below_enough [] i r h = absurd (cc)
below_enough (x ∷ xs) zero r h =
    let same : x ≡ r = cc in
    omega (arith, same, le-max_left (x + 1) (enough_for xs))
below_enough (x ∷ xs) (suc i) r h = omega (arith, below_enough xs i r h, le-max_right (x + 1) (enough_for xs))

pub enough_step : (rs : List ℕ) (at k r enough new : ℕ) → at ≡ k + 1 → slice_get rs k ≡ Some r → enough ≡ enough_for (drop at rs)
    → new ≡ max (r + 1) enough → new ≡ enough_for (drop k rs)
enough_step rs at k r enough new e h so is =
    is
    ∙ ap (λ (n : ℕ). max (r + 1) n) (so ∙ ap (λ (i : ℕ). enough_for (drop i rs)) e)
    ∙ ap enough_for (sym (rest_at rs k r h))

pub none_enough : (rs : List ℕ) (at : ℕ) → length rs ≤ at → 0 ≡ enough_for (drop at rs)
none_enough rs at h = rw (drop_all at rs h) refl

-- ---- each counted once

-- so many flags, those of some registers are set, and so many of these there are
pub record AreCounted (enough : ℕ) (rs : List ℕ) (flags : List Bool) (count : ℕ) : Type 0 where
  pub marked : AreFlags enough rs flags
  pub counted : count ≡ length (once rs)

one_or_none : (b : Bool) (r : ℕ) (rest : List ℕ) → length ((if b then [] else r ∷ []) ++ rest) ≡ length rest + (if b then 0 else 1)
one_or_none true r rest = omega arith
one_or_none false r rest = omega arith

pub once_more : (r : ℕ) (rs : List ℕ) → length (once (r ∷ rs)) ≡ length (once rs) + (if is_in r rs then 0 else 1)
once_more r rs = one_or_none (is_in r rs) r (once rs)

pub none_counted : (rs : List ℕ) (at enough count : ℕ) (flags : List Bool) → length rs ≤ at → AreFlags enough [] flags → count ≡ 0
    → AreCounted enough (drop at rs) flags count
none_counted rs at enough count flags h f e = rw (drop_all at rs h) (record { marked = f; counted = e })

pub all_counted : (rs : List ℕ) (at enough count : ℕ) (flags : List Bool) → at ≡ 0 → AreCounted enough (drop at rs) flags count
    → count ≡ length (once rs)
all_counted rs at enough count flags e c = c.counted ∙ ap (λ (i : ℕ). length (once (drop i rs))) e

pub counted_step : (rs : List ℕ) (at k r enough count n : ℕ) (flags new : List Bool) → at ≡ k + 1 → slice_get rs k ≡ Some r → enough ≡ enough_for rs
    → AreCounted enough (drop at rs) flags count → AreMarked flags (r ∷ []) new → n ≡ (if slice_index_or flags r false then 0 else 1)
    → AreCounted enough (drop k rs) new (count + n)
counted_step rs at k r enough count n flags new e h most c m is =
    let others : List ℕ = drop (k + 1) rs in
    let so : AreCounted enough others flags count = subst (λ (i : ℕ). AreCounted enough (drop i rs) flags count) e c in
    let seen : slice_index_or flags r false ≡ is_in r others = so.marked.each r (omega (arith, below_enough rs k r h, most)) in
    let more : n ≡ (if is_in r others then 0 else 1) = is ∙ ap (λ (b : Bool). if b then 0 else 1) seen in
    rw (rest_at rs k r h) (record {
      marked = flags_marked enough others (r ∷ []) flags new so.marked m;
      counted = omega (arith, so.counted, more, once_more r others);
    })
