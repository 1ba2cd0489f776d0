-- Tuples of one class of each list, by their numbers: the first list counts most.
use Rattle.std.specs.Prelude.{◌≡◌, ℕ, zero, suc, ◌+◌, ◌*◌, ◌≤◌, List, [], ◌∷◌, ◌++◌, length, map, flat_map, Some, slice_get}
use Rattle.std.specs.List.{range_with_len, sum_by}
use Rattle.std.proofs.Common.{◌∙◌, ap, arith, length-append}
use Rattle.std.proofs.lemmas.List.{length-map}
use Rattle.std.proofs.lemmas.List.Sums.{sum_by-cons}
use Rattle.std.proofs.lemmas.Option.{slice_get-map}
use Rattle.base.specs.Names.{slice_get-front}
use Rattle.lang_meaning.specs.declared.program.ProgramRows.{ProgramRows}
use Rattle.lang_meaning.specs.declared.program.GenericRow.{GenericRow}
use Rattle.lang_meaning.specs.Cells.{tuples, groups, tuple_cells, generic_cells}

-- an item behind some others
slice_get-past : {X : Type 0} (xs ys : List X) (i : ℕ) → slice_get (xs ++ ys) (length xs + i) ≡ slice_get ys i
slice_get-past [] ys i = ap (slice_get ys) (let e : 0 + i ≡ i = omega arith in e)
slice_get-past (x ∷ xs) ys i = ap (slice_get (x ∷ xs ++ ys)) (let e : length (x ∷ xs) + i ≡ suc (length xs + i) = omega arith in e) ∙ slice_get-past xs ys i

-- each of the classes in front of each of the tuples
abbrev pub fan : List ℕ → List (List ℕ) → List (List ℕ)
fan cs ts = flat_map (λ c. map (λ tuple. c ∷ tuple) ts) cs

pub length-fan : (cs : List ℕ) (ts : List (List ℕ)) → length (fan cs ts) ≡ length cs * length ts
length-fan [] ts = omega arith
length-fan (c ∷ cs) ts =
    omega (arith, length-append (map (λ tuple. c ∷ tuple) ts) (fan cs ts), length-map ts (λ tuple. c ∷ tuple), length-fan cs ts)

pub fan_at : (cs : List ℕ) (ts : List (List ℕ)) (k j c : ℕ) (t : List ℕ) → slice_get cs k ≡ Some c → slice_get ts j ≡ Some t
    → slice_get (fan cs ts) (k * length ts + j) ≡ Some (c ∷ t)
fan_at [] ts k j c t h g = absurd (cc)
fan_at (d ∷ ds) ts zero j c t h g =
    let e : d ≡ c = cc in
    let at : zero * length ts + j ≡ j = omega arith in
    let got : slice_get (map (λ tuple. d ∷ tuple) ts) j ≡ Some (c ∷ t) =
    slice_get-map (λ tuple. d ∷ tuple) ts j ∙ rw g (ap (λ x. Some (x ∷ t)) e) in
    ap (slice_get (fan (d ∷ ds) ts)) at ∙ slice_get-front (map (λ tuple. d ∷ tuple) ts) (fan ds ts) j (c ∷ t) got
fan_at (d ∷ ds) ts (suc k) j c t h g =
    let at : suc k * length ts + j ≡ length (map (λ tuple. d ∷ tuple) ts) + (k * length ts + j) = omega (arith, length-map ts (λ tuple. d ∷ tuple)) in
    ap (slice_get (fan (d ∷ ds) ts)) at
    ∙ slice_get-past (map (λ tuple. d ∷ tuple) ts) (fan ds ts) (k * length ts + j)
    ∙ fan_at ds ts k j c t h g

pub length-tuples : (cs : List ℕ) (lists : List (List ℕ))
    → length (tuples (cs ∷ lists)) ≡ length cs * length (tuples lists)
length-tuples cs lists = length-fan cs (tuples lists)

pub tuple_at : (cs : List ℕ) (lists : List (List ℕ)) (k j c : ℕ) (t : List ℕ) → slice_get cs k ≡ Some c → slice_get (tuples lists) j ≡ Some t
    → slice_get (tuples (cs ∷ lists)) (k * length (tuples lists) + j) ≡ Some (c ∷ t)
tuple_at cs lists k j c t h g = fan_at cs (tuples lists) k j c t h g

-- what counts at least one each counts at least as many as there are
pub sum_above : {X : Type 0} (f : X → ℕ) → ((x : X) → 1 ≤ f x) → (xs : List X) → length xs ≤ sum_by f xs
sum_above f h [] = omega arith
sum_above f h (x ∷ xs) = omega (arith, sum_by-cons f x xs, h x, sum_above f h xs)

-- there are at most as many tuples as cells
pub tuples-le-cells : (program : ProgramRows) (g : GenericRow)
    → length (tuples (map (groups program g) (range_with_len 0 g.required))) ≤ generic_cells program g
tuples-le-cells program g =
    omega (
      arith,
      sum_above (tuple_cells program g) (λ (t : List ℕ). let one : 1 ≤ tuple_cells program g t = omega arith in one)
          (tuples (map (groups program g) (range_with_len 0 g.required))),
    )
