-- Generic functions and methods are cut, and stand as before they were added.
use Rattle.std.proofs.Common.{◌≡◌, ℕ, zero, suc, ◌+◌, ◌-◌, ◌≤◌, ◌==◌, Bool, true, false, not, List, [], ◌∷◌, length, Some, None, take, slice_get, slice_set, if◌then◌else◌, refl, sym, ap, subst, ◌∙◌, arith}
use Rattle.std.specs.List.{list_any, list_all}
use Rattle.std.specs.Ordering.{nat_cmp}
use Rattle.std.specs.BTreeMap.{get, BTreeMap, UpdatesBy}
use Rattle.std.proofs.lemmas.Bool.Decides.{nat_tests}
use Rattle.std.proofs.lemmas.List.{take-map, take_all, take-append-le}
use Rattle.std.proofs.lemmas.Option.{slice_get-map}
use Rattle.lang_meaning.specs.declared.program.GenericRow.{GenericRow}
use Rattle.lang_meaning.specs.declared.program.MethodRow.{MethodRow}
use Rattle.lang_meaning.specs.bridge.Prefixes.{of_prefix, in_prefix}
use Rattle.lang_meaning.specs.Lookup.{all_differ}
use Rattle.lang_dispatch.specs.Methods.{names_of, is_same, row_is_whole, methods_at, with_method, with_first_methods}
use Rattle.lang_dispatch.specs.NameNumbers.{IsIndexed}
use Rattle.lang_dispatch.proofs.Naming.{at_is-equal}
use Rattle.lang_dispatch.proofs.Taking.{both, neither, is_false}

-- the last of so many names has no number any more
pub IsIndexed-less : (names : List ℕ) (k n : ℕ) (old new : BTreeMap ℕ ℕ) → slice_get names k ≡ Some n → IsIndexed (take (k + 1) names) old
    → ((q : ℕ) → get nat_cmp new q ≡ (if n == q then None else get nat_cmp old q)) → IsIndexed (take k names) new
IsIndexed-less names k n old new at x updates = record {
  found = λ q i h. found q i (n == q) refl (sym (updates q) ∙ h);
  there = λ q i h. there q i h (n == q) refl;
}
  where
    last : get nat_cmp old n ≡ Some k
    last = x.there n k (in_prefix (k + 1) names k n (omega arith) at)

    found : (q i : ℕ) (b : Bool) → (n == q) ≡ b → (if b then None else get nat_cmp old q) ≡ Some i → slice_get (take k names) i ≡ Some q
    found q i true e h = absurd (cc)
    found q i false e h =
        let here = of_prefix (k + 1) names i q (x.found q i h) in
        let other : (i ≡ k) → ⊥ = λ same. let a : slice_get names i ≡ Some n = ap (slice_get names) same ∙ at in let b : n ≡ q = cc in grind (arith, nat_tests) in
        in_prefix k names i q (omega (arith, here.0, other)) here.1

    there : (q i : ℕ) → slice_get (take k names) i ≡ Some q → (b : Bool) → (n == q) ≡ b → get nat_cmp new q ≡ Some i
    there q i h true e =
        let here = of_prefix k names i q h in
        let same : n ≡ q = grind arith in
        let number : get nat_cmp old q ≡ Some i = x.there q i (in_prefix (k + 1) names i q (omega (arith, here.0)) here.1) in
        let place : i ≡ k = cc last in
        absurd (omega (arith, here.0, place))
    there q i h false e =
        let here = of_prefix k names i q h in
        let number : get nat_cmp old q ≡ Some i = x.there q i (in_prefix (k + 1) names i q (omega (arith, here.0)) here.1) in
        updates q ∙ rw e number

-- the last of the generic functions that are left is forgotten
pub forgotten : (rows : List GenericRow) (left : ℕ) (g : GenericRow) (before after : BTreeMap ℕ ℕ) → 1 ≤ left
    → slice_get rows (left - 1) ≡ Some g → IsIndexed (take left (names_of rows)) before
    → UpdatesBy nat_cmp (nat_cmp g.name.0) before after None → IsIndexed (take (left - 1) (names_of rows)) after
forgotten rows left g before after some at x updates =
    let last : left ≡ left - 1 + 1 = omega (arith, some) in
    let P : ℕ → Type 0 = λ n. IsIndexed (take n (names_of rows)) before in
    let name : slice_get (names_of rows) (left - 1) ≡ Some g.name.0 =
    slice_get-map (λ r. r.name.0) rows (left - 1) ∙ rw at refl in
    IsIndexed-less (names_of rows) (left - 1) g.name.0 before after name (subst P last x)
    (λ q. updates.0 q ∙ ap (λ b. if b then None else get nat_cmp before q) (at_is-equal g.name.0 q))

-- cut methods

-- a row put in another's place and back with its first methods
cut_set : (rows : List GenericRow) (i : ℕ) (g held : GenericRow) (n : ℕ) → slice_get rows i ≡ Some g
    → slice_set (slice_set rows i held) i (record g { methods = take n g.methods }) ≡ with_first_methods rows i n
cut_set [] i g held n h = absurd (cc)
cut_set (r ∷ rows) zero g held n h = let same : r ≡ g = cc in rw same refl
cut_set (r ∷ rows) (suc i) g held n h = ap (λ rs. r ∷ rs) (cut_set rows i g held n h)

pub cut_put : (rows held_rows new : List GenericRow) (i : ℕ) (g held : GenericRow) (methods : List MethodRow) (n : ℕ)
    → slice_get rows i ≡ Some g → held_rows ≡ slice_set rows i held → methods ≡ take n g.methods
    → new ≡ slice_set held_rows i (record g { methods = methods }) → new ≡ with_first_methods rows i n
cut_put rows held_rows new i g held methods n a b d e = e ∙ rw (b, d) (cut_set rows i g held n a)

pub names-with_first : (rows : List GenericRow) (i n : ℕ) → names_of (with_first_methods rows i n) ≡ names_of rows
names-with_first [] i n = refl
names-with_first (g ∷ gs) zero n = refl
names-with_first (g ∷ gs) (suc i) n = ap (λ ns. g.name.0 ∷ ns) (names-with_first gs i n)

-- rows stay whole

list_all-take : {X : Type 0} (p : X → Bool) (n : ℕ) (xs : List X) → list_all p xs ≡ true → list_all p (take n xs) ≡ true
list_all-take p zero xs h = refl
list_all-take p (suc n) [] h = refl
list_all-take p (suc n) (x ∷ xs) h =
    let parts : (p x ≡ true) × (list_all p xs ≡ true) = both (p x) (list_all p xs) h in
    let rest : list_all p (take n xs) ≡ true = list_all-take p n xs parts.1 in
    rw (parts.0, rest) refl

list_any-take : {X : Type 0} (p : X → Bool) (n : ℕ) (xs : List X) → list_any p xs ≡ false → list_any p (take n xs) ≡ false
list_any-take p zero xs h = refl
list_any-take p (suc n) [] h = refl
list_any-take p (suc n) (x ∷ xs) h =
    let parts : (p x ≡ false) × (list_any p xs ≡ false) = neither (p x) (list_any p xs) h in
    let rest : list_any p (take n xs) ≡ false = list_any-take p n xs parts.1 in
    rw (parts.0, rest) refl

differ-take : (n : ℕ) (ms : List MethodRow) → all_differ is_same ms ≡ true → all_differ is_same (take n ms) ≡ true
differ-take zero ms h = refl
differ-take (suc n) [] h = refl
differ-take (suc n) (m ∷ ms) h =
    let parts : (not (list_any (is_same m) ms) ≡ true) × (all_differ is_same ms ≡ true) = both (not (list_any (is_same m) ms)) (all_differ is_same ms) h in
    let here : list_any (is_same m) (take n ms) ≡ false = list_any-take (is_same m) n ms (is_false (list_any (is_same m) ms) parts.0) in
    let rest : all_differ is_same (take n ms) ≡ true = differ-take n ms parts.1 in
    rw (here, rest) refl

row-first : (g : GenericRow) (n : ℕ) → row_is_whole g ≡ true → row_is_whole (record g { methods = take n g.methods }) ≡ true
row-first g n h =
    let parts : (list_all (λ m. length m.classes == g.required) g.methods ≡ true) × (all_differ is_same g.methods ≡ true) =
    both (list_all (λ m. length m.classes == g.required) g.methods) (all_differ is_same g.methods) h in
    let lengths : list_all (λ m. length m.classes == g.required) (take n g.methods) ≡ true =
    list_all-take (λ m. length m.classes == g.required) n g.methods parts.0 in
    let differ : all_differ is_same (take n g.methods) ≡ true = differ-take n g.methods parts.1 in
    rw (lengths, differ) refl

pub whole-first : (rows : List GenericRow) (i n : ℕ) → list_all row_is_whole rows ≡ true → list_all row_is_whole (with_first_methods rows i n) ≡ true
whole-first [] i n h = refl
whole-first (g ∷ gs) zero n h =
    let parts : (row_is_whole g ≡ true) × (list_all row_is_whole gs ≡ true) = both (row_is_whole g) (list_all row_is_whole gs) h in
    let here : row_is_whole (record g { methods = take n g.methods }) ≡ true = row-first g n parts.0 in
    let others : list_all row_is_whole gs ≡ true = parts.1 in
    rw (here, others) refl
whole-first (g ∷ gs) (suc i) n h =
    let parts : (row_is_whole g ≡ true) × (list_all row_is_whole gs ≡ true) = both (row_is_whole g) (list_all row_is_whole gs) h in
    let here : row_is_whole g ≡ true = parts.0 in
    let others : list_all row_is_whole (with_first_methods gs i n) ≡ true = whole-first gs i n parts.1 in
    rw (here, others) refl

-- the first generic functions keep their numbers and are whole
pub first_keep : (rows : List GenericRow) (len : ℕ) (numbers : BTreeMap ℕ ℕ) → IsIndexed (take len (names_of rows)) numbers
    → list_all row_is_whole rows ≡ true
    → IsIndexed (names_of (take len rows)) numbers × (list_all row_is_whole (take len rows) ≡ true)
first_keep rows len numbers x whole =
    let P : List ℕ → Type 0 = λ names. IsIndexed names numbers in
    (subst P (take-map (λ r. r.name.0) len rows) x, list_all-take row_is_whole len rows whole)

-- what was added is gone again

-- a method that was added behind those that stay
pub added : (rows : List GenericRow) (i n : ℕ) (m : MethodRow) → n ≤ length (methods_at rows i)
    → with_first_methods (with_method rows i m) i n ≡ with_first_methods rows i n
added [] i n m h = refl
added (g ∷ gs) zero n m h = ap (λ ms. record g { methods = ms } ∷ gs) (take-append-le n g.methods (m ∷ []) h)
added (g ∷ gs) (suc i) n m h = ap (λ rs. g ∷ rs) (added gs i n m h)

-- all methods that are there stay
pub all_stay : (rows : List GenericRow) (i : ℕ) → with_first_methods rows i (length (methods_at rows i)) ≡ rows
all_stay [] i = refl
all_stay (g ∷ gs) zero = ap (λ ms. record g { methods = ms } ∷ gs) (take_all (length g.methods) g.methods (omega arith))
all_stay (g ∷ gs) (suc i) = ap (λ rs. g ∷ rs) (all_stay gs i)

-- a method of another generic function
pub apart : (rows : List GenericRow) (i j n : ℕ) (m : MethodRow) → (i ≡ j → ⊥)
    → with_first_methods (with_method rows j m) i n ≡ with_method (with_first_methods rows i n) j m
apart [] i j n m h = refl
apart (g ∷ gs) zero zero n m h = absurd (h refl)
apart (g ∷ gs) zero (suc j) n m h = refl
apart (g ∷ gs) (suc i) zero n m h = refl
apart (g ∷ gs) (suc i) (suc j) n m h = ap (λ rs. g ∷ rs) (apart gs i j n m (λ e. h (ap suc e)))

-- a method of a generic function that does not stay
pub behind : (rows : List GenericRow) (i len : ℕ) (m : MethodRow) → len ≤ i → take len (with_method rows i m) ≡ take len rows
behind rows i zero m h = refl
behind [] i (suc len) m h = refl
behind (g ∷ gs) zero (suc len) m h = absurd (omega (arith, h))
behind (g ∷ gs) (suc i) (suc len) m h = ap (λ rs. g ∷ rs) (behind gs i len m (omega (arith, h)))
