-- The numbers of names, and what a new name does to them.
use Rattle.std.proofs.Common.{◌≡◌, ℕ, zero, suc, ◌==◌, Bool, true, false, List, [], ◌∷◌, ◌++◌, length, Some, None, slice_get, if◌then◌else◌, refl, sym, ap, subst, ◌∙◌, ⊎_elim, arith, ◌||◌}
use Rattle.std.specs.Ordering.{nat_cmp}
use Rattle.std.specs.BTreeMap.{get, BTreeMap, is_at}
use Rattle.std.proofs.lemmas.List.{length-map}
use Rattle.std.proofs.lemmas.Bool.Decides.{nat_tests}
use Rattle.base.specs.Names.{slice_get-front, slice_get-behind, slice_get-push}
use Rattle.lang_meaning.specs.declared.program.GenericRow.{GenericRow}
use Rattle.lang_meaning.specs.declared.program.MethodRow.{MethodRow}
use Rattle.lang_meaning.specs.Lookup.{is_in}
use Rattle.lang_dispatch.specs.Methods.{names_of, with_method, HaveOwnNames}
use Rattle.lang_dispatch.specs.NameNumbers.{IsIndexed}

pub own_names : (rows : List GenericRow) (numbers : BTreeMap ℕ ℕ) → IsIndexed (names_of rows) numbers → HaveOwnNames rows
own_names rows numbers x = record {
  once = λ i j n h k.
      let a : get nat_cmp numbers n ≡ Some i = x.there n i h in
      let b : get nat_cmp numbers n ≡ Some j = x.there n j k in
      cc;
}

-- a name that is in the list stands at a place
place_of-name : (n : ℕ) (names : List ℕ) → is_in n names ≡ true → (i : ℕ) × (slice_get names i ≡ Some n)
place_of-name n [] h = absurd (cc)
place_of-name n (m ∷ ms) h = by (n == m) refl (λ k. let r : (i : ℕ) × (slice_get ms i ≡ Some n) = place_of-name n ms k in (suc r.0, r.1))
  where
    by : (b : Bool) → (n == m) ≡ b → (is_in n ms ≡ true → (i : ℕ) × (slice_get (m ∷ ms) i ≡ Some n)) → (i : ℕ) × (slice_get (m ∷ ms) i ≡ Some n)
    by true e f = (0, let same : m ≡ n = grind arith in ap Some same)
    by false e f = f (let rest = rw e at h in rest)

is_in-name : (n i : ℕ) (names : List ℕ) → slice_get names i ≡ Some n → is_in n names ≡ true
is_in-name n i [] h = absurd (cc)
is_in-name n zero (m ∷ ms) h =
    let same : m ≡ n = cc in
    let here : (n == m) ≡ true = grind (arith, nat_tests) in
    rw here refl
is_in-name n (suc i) (m ∷ ms) h =
    let rest : is_in n ms ≡ true = is_in-name n i ms h in
    elim (n == m) as (λ b. (b || is_in n ms) ≡ true) [ true ↦ refl | false ↦ rest ]

-- a name without a number is not there
pub no_name : (names : List ℕ) (numbers : BTreeMap ℕ ℕ) (n : ℕ) → IsIndexed names numbers → get nat_cmp numbers n ≡ None → is_in n names ≡ false
no_name names numbers n x h = by (is_in n names) refl
  where
    by : (b : Bool) → is_in n names ≡ b → b ≡ false
    by true e =
        let r : (i : ℕ) × (slice_get names i ≡ Some n) = place_of-name n names e in
        let k : get nat_cmp numbers n ≡ Some r.0 = x.there n r.0 r.1 in
        absurd (cc)
    by false e = refl

-- one more name
pub IsIndexed-more : (names : List ℕ) (old new : BTreeMap ℕ ℕ) (n : ℕ) → IsIndexed names old → is_in n names ≡ false
    → ((q : ℕ) → get nat_cmp new q ≡ (if n == q then Some (length names) else get nat_cmp old q))
    → IsIndexed (names ++ n ∷ []) new
IsIndexed-more names old new n x absent updates = record {
  found = λ q i h. found q i (n == q) refl (sym (updates q) ∙ h);
  there = λ q i h.
      ⊎_elim
      (λ a. updates q ∙ other q i a (n == q) refl)
      (λ (p : (i ≡ length names) × (n ≡ q)).
      let same : (n == q) ≡ true = let e : n ≡ q = p.1 in grind (arith, nat_tests) in
      updates q ∙ rw same (ap Some (sym p.0)))
      (slice_get-push names n i q h);
}
  where
    found : (q i : ℕ) (b : Bool) → (n == q) ≡ b → (if b then Some (length names) else get nat_cmp old q) ≡ Some i → slice_get (names ++ n ∷ []) i ≡ Some q
    found q i true e h =
        let same : n ≡ q = grind arith in
        let at : length names ≡ i = cc in
        let P : ℕ → Type 0 = λ j. slice_get (names ++ n ∷ []) j ≡ Some q in
        subst P at (slice_get-behind names n ∙ ap Some same)
    found q i false e h = slice_get-front names (n ∷ []) i q (x.found q i h)

    other : (q i : ℕ) → slice_get names i ≡ Some q → (b : Bool) → (n == q) ≡ b → (if b then Some (length names) else get nat_cmp old q) ≡ Some i
    other q i a true e =
        let same : n ≡ q = grind arith in
        let there : is_in q names ≡ true = is_in-name q i names a in
        let here : is_in n names ≡ true = rw same there in
        absurd (cc)
    other q i a false e = x.there q i a

-- a method changes no name
pub names-with_method : (rows : List GenericRow) (i : ℕ) (m : MethodRow) → names_of (with_method rows i m) ≡ names_of rows
names-with_method [] i m = refl
names-with_method (g ∷ gs) zero m = refl
names-with_method (g ∷ gs) (suc i) m = ap (λ ns. g.name.0 ∷ ns) (names-with_method gs i m)

pub names-more : (rows : List GenericRow) (g : GenericRow) → names_of (rows ++ g ∷ []) ≡ names_of rows ++ g.name.0 ∷ []
names-more [] g = refl
names-more (r ∷ rows) g = ap (λ ns. r.name.0 ∷ ns) (names-more rows g)

pub length-names : (rows : List GenericRow) → length (names_of rows) ≡ length rows
length-names rows = length-map rows (λ g. g.name.0)

-- the test of a map at numbers
pub at_is-equal : (n q : ℕ) → is_at (nat_cmp n) q ≡ (n == q)
at_is-equal n q = grind (arith, nat_tests)
