-- The tuple of a number, list by list.
use Rattle.std.specs.Prelude.{◌≡◌, ℕ, zero, suc, ◌+◌, ◌*◌, ◌/◌, ◌%◌, ◌<◌, ◌≤◌, ◌⊎◌, min, List, [], ◌∷◌, ◌++◌, length, drop, Some, slice_get, refl}
use Rattle.std.proofs.Common.{◌∙◌, sym, ap, arith, append_assoc, append-nil, mul-le-mul_right, inl, inr, ⊎_elim}
use Rattle.std.proofs.Math.Nat.{mul-div_cancel_left, div-lt_iff_lt-mul}
use Rattle.std.proofs.lemmas.List.{drop_all}
use Rattle.base.specs.model.DataRest.{rest_at}
use Rattle.lang_meaning.specs.Cells.{tuples}
use Rattle.lang_dispatch.proofs.TuplePlaces.{length-tuples, tuple_at}

-- so far: the tuple of the first lists, how many tuples the other lists have, and the number among these
pub record Decoding (lists : List (List ℕ)) (index : ℕ) (tuple : List ℕ) (left place at : ℕ) : Type 0 where
  pub count : left ≡ length (tuples (drop at lists))
  pub within : place < left
  pub rest : (t : List ℕ) → slice_get (tuples (drop at lists)) place ≡ Some t → slice_get (tuples lists) index ≡ Some (tuple ++ t)

pub decoding_none : (lists : List (List ℕ)) (index count : ℕ) → count ≡ length (tuples lists) → index < count → Decoding lists index [] count index 0
decoding_none lists index count e h = record { count = e; within = h; rest = λ t g. g }

-- none of the lists is empty
no_zero : (a b : ℕ) → 0 < a * b → (0 < a) × (0 < b)
no_zero zero b h = absurd (omega arith)
no_zero (suc a) zero h = absurd (omega arith)
no_zero (suc a) (suc b) h = (omega arith, omega arith)

pub some_left : (lists : List (List ℕ)) (index : ℕ) (tuple : List ℕ) (left place at : ℕ) (list : List ℕ)
    → Decoding lists index tuple left place at → slice_get lists at ≡ Some list
    → (0 < length list) × (left ≡ length list * length (tuples (drop (at + 1) lists))) × (0 < length (tuples (drop (at + 1) lists)))
some_left lists index tuple left place at list x h =
    let is : left ≡ length list * length (tuples (drop (at + 1) lists)) =
    x.count ∙ ap (λ l. length (tuples l)) (rest_at lists at list h) ∙ length-tuples list (drop (at + 1) lists) in
    let some : (0 < length list) × (0 < length (tuples (drop (at + 1) lists))) =
    no_zero (length list) (length (tuples (drop (at + 1) lists))) (omega (arith, x.within)) in
    (some.0, is, some.1)

-- the number of the item of the next list is in range
pub next_left : (lists : List (List ℕ)) (index : ℕ) (tuple : List ℕ) (left place at : ℕ) (list : List ℕ)
    → Decoding lists index tuple left place at → slice_get lists at ≡ Some list
    → (left / length list ≡ length (tuples (drop (at + 1) lists))) × (0 < left / length list) × (place / (left / length list) < length list)
next_left lists index tuple left place at list x h =
    let n = length list in
    let rest = length (tuples (drop (at + 1) lists)) in
    let s : (0 < n) × (left ≡ n * rest) × (0 < rest) = some_left lists index tuple left place at list x h in
    let quotient : left / n ≡ rest = ap (λ v. v / n) s.1 ∙ mul-div_cancel_left rest s.0 in
    let fits : place < n * rest = omega (arith, x.within, s.1) in
    let below : place / rest < n = (div-lt_iff_lt-mul {k = rest} {x = place} {y = n} s.2).1 fits in
    (quotient, rw quotient s.2, rw quotient below)

pub decoding_more : (lists : List (List ℕ)) (index : ℕ) (tuple : List ℕ) (left place at : ℕ) (list : List ℕ) (c : ℕ)
    → Decoding lists index tuple left place at → slice_get lists at ≡ Some list → slice_get list (place / (left / length list)) ≡ Some c
    → Decoding lists index (tuple ++ c ∷ []) (left / length list) (place % (left / length list)) (at + 1)
decoding_more lists index tuple left place at list c x h g =
    let n = left / length list in
    let s : (n ≡ length (tuples (drop (at + 1) lists))) × (0 < n) × (place / n < length list) = next_left lists index tuple left place at list x h in
    let some : 0 < n = s.1 in
    record {
      count = s.0;
      within = omega arith;
      rest = λ t r.
          let whole : slice_get (tuples (list ∷ drop (at + 1) lists)) (place / n * length (tuples (drop (at + 1) lists)) + place % n) ≡ Some (c ∷ t) =
          tuple_at list (drop (at + 1) lists) (place / n) (place % n) c t g r in
          let number : place / n * length (tuples (drop (at + 1) lists)) + place % n ≡ place = ap (λ m. place / n * m + place % n) (sym s.0) ∙ again place n in
          let found : slice_get (tuples (drop at lists)) place ≡ Some (c ∷ t) = rw (rest_at lists at list h) (ap (slice_get (tuples (list ∷ drop (at + 1) lists))) (sym number) ∙ whole) in
          x.rest (c ∷ t) found ∙ ap Some (sym (append_assoc tuple (c ∷ []) t));
    }
  where
    again : (a b : ℕ) → a / b * b + a % b ≡ a
    again a b = grind arith

pub decoding_all : (lists : List (List ℕ)) (index : ℕ) (tuple : List ℕ) (left place at : ℕ) → Decoding lists index tuple left place at → length lists ≤ at
    → slice_get (tuples lists) index ≡ Some tuple
decoding_all lists index tuple left place at x h =
    let none : drop at lists ≡ [] = drop_all at lists h in
    let one : left ≡ 1 = x.count ∙ ap (λ l. length (tuples l)) none in
    let first : place ≡ 0 = omega (arith, x.within) in
    x.rest [] (rw (none, first) refl) ∙ ap Some (append-nil tuple)

-- products up to a limit

either : (a m : ℕ) → (a ≤ m) ⊎ (m ≤ a)
either zero m = inl (omega arith)
either (suc a) zero = inr (omega arith)
either (suc a) (suc m) = ⊎_elim (λ h. let t : suc a ≤ suc m = omega arith in inl t) (λ h. let t : suc m ≤ suc a = omega arith in inr t) (either a m)

cut_by : (a r m : ℕ) → min (min a m * r) m ≡ min (a * r) m
cut_by a zero m = omega arith
cut_by a (suc r) m = ⊎_elim (λ h. small h) (λ h. large h) (either a m)
  where
    small : a ≤ m → min (min a m * suc r) m ≡ min (a * suc r) m
    small h = let e : min a m ≡ a = omega arith in rw e refl

    large : m ≤ a → min (min a m * suc r) m ≡ min (a * suc r) m
    large h =
        let e : min a m ≡ m = omega arith in
        rw e (omega (arith, mul-le-mul_right {m = m} {n = a} r h, mul-le-mul_right {m = m} {n = a} (suc r) h))

-- one more list
pub one_multiplied : (product next size rest left whole m : ℕ) → left ≡ size * rest → next ≡ min (product * size) m
    → min (product * left) m ≡ whole → min (next * rest) m ≡ whole
one_multiplied product next size rest left whole m a b e =
    let same : product * left ≡ product * size * rest = ap (λ l. product * l) a ∙ grind arith in
    rw b (cut_by (product * size) rest m ∙ ap (λ n. min n m) (sym same) ∙ e)
