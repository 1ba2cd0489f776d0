-- Counts of generic functions, one after another, and of tables that have grown.
use Rattle.std.proofs.Common.{◌≡◌, ℕ, zero, suc, ◌+◌, ◌≤◌, ⊎_elim, min, List, [], ◌∷◌, ◌++◌, length, Option, Some, None, take, drop, slice_get, refl, ap, subst, sym, ◌∙◌, arith, length-append}
use Rattle.std.specs.List.{sum_by}
use Rattle.std.proofs.lemmas.List.{length-take}
use Rattle.std.proofs.lemmas.Option.{slice_get_within}
use Rattle.base.specs.Names.{slice_get-push}
use Rattle.base.specs.bridge.Counted.{sum_left, no_sum_left}
use Rattle.lang_meaning.specs.declared.program.ClassRow.{ClassRow}
use Rattle.lang_meaning.specs.declared.program.GenericRow.{GenericRow}
use Rattle.lang_meaning.specs.Cells.{generic_cells}
use Rattle.lang_dispatch.specs.OfClasses.{with_classes}
use Rattle.front_cells.specs.declared.generic_count.GenericCount.{GenericCount}
use Rattle.front_cells.specs.declared.count.CellCount.{CellCount}
use Rattle.front_cells.specs.declared.count.Estimates.{Estimates}
use Rattle.front_cells.specs.Counts.{all_cells, IsCountOf, IsCellCount, HasMoreMethods, WasCellCount, IsCurrent, AreEstimates}

-- the first so many are estimated
pub record AreEstimatesTo (at : ℕ) (rows : List ClassRow) (gs : List GenericRow) (found : Estimates) : Type 0 where
  pub paired : length found.generics ≡ at
  pub each : (i : ℕ) (k : GenericCount) (g : GenericRow) → slice_get found.generics i ≡ Some k → slice_get gs i ≡ Some g → IsCountOf rows g k
  pub total : min (all_cells rows gs) 262145 ≤ found.total + sum_by (generic_cells (with_classes rows)) (drop at gs)

pub no_estimate : (rows : List ClassRow) (gs : List GenericRow) → AreEstimatesTo 0 rows gs (record { total = 0; generics = [] })
no_estimate rows gs = record { paired = refl; each = λ i k g a b. absurd (cc a); total = omega arith }

same_row : (gs : List GenericRow) (i j : ℕ) (g h : GenericRow) → slice_get gs i ≡ Some g → slice_get gs j ≡ Some h → i ≡ j → g ≡ h
same_row gs i j g h a b e = let same : Some g ≡ Some h = sym a ∙ (ap (slice_get gs) e ∙ b) in cc

pub estimate_more : (at : ℕ) (rows : List ClassRow) (gs : List GenericRow) (g : GenericRow) (k : GenericCount) (found next : Estimates) → slice_get gs at ≡ Some g →
    IsCountOf rows g k → next.total ≡ min (found.total + k.most) 18446744073709551615 → next.generics ≡ found.generics ++ k ∷ [] →
    AreEstimatesTo at rows gs found → AreEstimatesTo (at + 1) rows gs next
estimate_more at rows gs g k found next there count total_is generics_are h = record {
  paired = omega (arith, ap length generics_are, length-append found.generics (k ∷ []), h.paired);
  each = λ i j f a b.
      ⊎_elim
      (λ old. h.each i j f old b)
      (λ (p : (i ≡ length found.generics) × (k ≡ j)).
      let same : g ≡ f = same_row gs at i g f there b (sym (p.0 ∙ h.paired)) in
      subst (λ (f : GenericRow). IsCountOf rows f j) same (subst (λ (j : GenericCount). IsCountOf rows g j) p.1 count))
      (slice_get-push found.generics k i j (ap (λ ks. slice_get ks i) (sym generics_are) ∙ a));
  total = omega (arith, h.total, total_is, count.most, sum_left (generic_cells (with_classes rows)) gs at g there);
}

pub all_estimated : (at : ℕ) (rows : List ClassRow) (gs : List GenericRow) (found : Estimates) → length gs ≤ at → at ≤ length gs → AreEstimatesTo at rows gs found → AreEstimates rows gs found
all_estimated at rows gs found past within h = record {
  paired = omega (arith, h.paired);
  each = h.each;
  total = omega (arith, h.total, no_sum_left (generic_cells (with_classes rows)) gs at past);
}

-- estimates that are few are a count
pub estimates_few : (rows : List ClassRow) (gs : List GenericRow) (found : Estimates) (count : CellCount) → AreEstimates rows gs found → found.total ≤ 262144 →
    count.classes ≡ length rows → count.generics ≡ found.generics → IsCellCount rows gs count
estimates_few rows gs found count h few classes_are generics_are = record {
  classes = classes_are;
  paired = ap length generics_are ∙ h.paired;
  each = λ i k g a b. h.each i k g (ap (λ ks. slice_get ks i) (sym generics_are) ∙ a) b;
  few = omega (arith, h.total);
}

-- and so are others, where the cells are few
pub cells_few : (rows : List ClassRow) (gs : List GenericRow) (found : Estimates) (count : CellCount) (cells : ℕ) → AreEstimates rows gs found →
    cells ≡ min (all_cells rows gs) 262145 → cells ≤ 262144 → count.classes ≡ length rows → count.generics ≡ found.generics → IsCellCount rows gs count
cells_few rows gs found count cells h counted few classes_are generics_are = record {
  classes = classes_are;
  paired = ap length generics_are ∙ h.paired;
  each = λ i k g a b. h.each i k g (ap (λ ks. slice_get ks i) (sym generics_are) ∙ a) b;
  few = omega arith;
}

-- ---- tables that have grown

slice_get_none : {X : Type 0} (xs : List X) (i : ℕ) → slice_get xs i ≡ None → length xs ≤ i
slice_get_none [] i h = omega arith
slice_get_none (x ∷ xs) zero h = absurd (cc h)
slice_get_none (x ∷ xs) (suc i) h = omega (arith, slice_get_none xs i h)

all_taken : {X : Type 0} (xs : List X) → take (length xs) xs ≡ xs
all_taken [] = refl
all_taken (x ∷ xs) = ap (λ ys. x ∷ ys) (all_taken xs)

-- a generic function that has as many methods as it had is as it was
same_generic : (g h : GenericRow) → HasMoreMethods g h → length h.methods ≡ length g.methods → h ≡ g
same_generic g h more e =
    let methods : h.methods ≡ g.methods = sym (all_taken h.methods) ∙ (ap (λ n. take n h.methods) e ∙ more.methods) in
    rw (← more.name, ← more.required, ← more.rest, ← methods) refl

-- what was counted before holds of it still, with the classes that were there
pub counted_before : (rows : List ClassRow) (gs : List GenericRow) (count : CellCount) (at : ℕ) (k : GenericCount) (g : GenericRow) → WasCellCount rows gs count →
    slice_get count.generics at ≡ Some k → slice_get gs at ≡ Some g → k.methods ≡ length g.methods → IsCountOf (take count.classes rows) g k
counted_before rows gs count at k g was a b e = by (slice_get was.generics_then at) refl
  where
    by : (o : Option GenericRow) → slice_get was.generics_then at ≡ o → IsCountOf (take count.classes rows) g k
    by None o =
        absurd (omega (arith, slice_get_within count.generics at k a, was.counted.paired, slice_get_none was.generics_then at o))
    by (Some f) o =
        let old : IsCountOf was.rows_then f k = was.counted.each at k f a o in
        let same : g ≡ f = same_generic f g (was.generics at f g o b) (sym e ∙ old.methods) in
        let front : take count.classes rows ≡ was.rows_then = ap (λ n. take n rows) was.counted.classes ∙ was.classes in
        subst (λ (f : GenericRow). IsCountOf (take count.classes rows) f k) (sym same) (subst (λ (cs : List ClassRow). IsCountOf cs f k) (sym front) old)

pub classes_there : (rows : List ClassRow) (gs : List GenericRow) (count : CellCount) → WasCellCount rows gs count → count.classes ≤ length rows
classes_there rows gs count was =
    omega (arith, was.counted.classes, ap length was.classes, length-take (length was.rows_then) rows)

-- what has not grown is counted still

same_lists : (gs hs : List GenericRow) → length gs ≡ length hs →
    ((i : ℕ) (g h : GenericRow) → slice_get gs i ≡ Some g → slice_get hs i ≡ Some h → h ≡ g) → hs ≡ gs
same_lists [] [] e h = refl
same_lists [] (k ∷ hs) e h = absurd (omega (arith, e))
same_lists (g ∷ gs) [] e h = absurd (omega (arith, e))
same_lists (g ∷ gs) (k ∷ hs) e h =
    let first : k ≡ g = h 0 g k refl refl in
    let rest : hs ≡ gs = same_lists gs hs (omega (arith, e)) (λ i x y a b. h (suc i) x y a b) in
    cc

pub current_count : (rows : List ClassRow) (gs : List GenericRow) (count : CellCount) → WasCellCount rows gs count → IsCurrent rows gs count → IsCellCount rows gs count
current_count rows gs count was now =
    let classes : rows ≡ was.rows_then = sym (all_taken rows) ∙ (ap (λ n. take n rows) (sym now.classes ∙ was.counted.classes) ∙ was.classes) in
    let generics : gs ≡ was.generics_then =
    same_lists was.generics_then gs (sym was.counted.paired ∙ now.paired)
    (λ i g h a b. same_generic g h (was.generics i g h a b) (methods i g h a b)) in
    subst (λ (hs : List GenericRow). IsCellCount rows hs count) (sym generics) (subst (λ (cs : List ClassRow). IsCellCount cs was.generics_then count) (sym classes) was.counted)
  where
    counted_at : (i : ℕ) (g h : GenericRow) (o : Option GenericCount) → slice_get count.generics i ≡ o → slice_get was.generics_then i ≡ Some g → slice_get gs i ≡ Some h →
        length h.methods ≡ length g.methods
    counted_at i g h None o a b =
        absurd (omega (arith, slice_get_within was.generics_then i g a, was.counted.paired, slice_get_none count.generics i o))
    counted_at i g h (Some k) o a b = sym (now.methods i k h o b) ∙ (was.counted.each i k g o a).methods

    methods : (i : ℕ) (g h : GenericRow) → slice_get was.generics_then i ≡ Some g → slice_get gs i ≡ Some h → length h.methods ≡ length g.methods
    methods i g h a b = counted_at i g h (slice_get count.generics i) refl a b
