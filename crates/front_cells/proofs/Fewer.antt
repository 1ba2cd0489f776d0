-- The cells of a generic function where only the first classes are there: with a class more that adds no group.
use Rattle.std.proofs.Common.{◌≡◌, ℕ, zero, suc, ◌+◌, ◌*◌, ◌<◌, ◌≤◌, ◌==◌, nat_lt, Bool, true, false, ◌&&◌, List, [], ◌∷◌, ◌++◌, length, map, filter, take, slice_get, if◌then◌else◌, min, refl, ap, subst, sym, ◌∙◌, arith}
use Rattle.std.specs.Prelude.{flat_map, slice_index_or}
use Rattle.std.specs.Str.{bytes_eq}
use Rattle.std.specs.List.{range_with_len, list_any, sum_by, position_or_len}
use Rattle.std.proofs.lemmas.Bool.{eqb-true}
use Rattle.std.proofs.lemmas.Bool.Decides.{nat_tests}
use Rattle.std.proofs.lemmas.List.Sums.{sum_by-cons}
use Rattle.std.proofs.Math.Nat.{add-mul}
use Rattle.lang_meaning.specs.declared.program.ClassRow.{ClassRow}
use Rattle.lang_meaning.specs.declared.program.GenericRow.{GenericRow}
use Rattle.lang_meaning.specs.declared.program.MethodRow.{MethodRow}
use Rattle.lang_meaning.specs.declared.program.ProgramRows.{ProgramRows}
use Rattle.lang_meaning.specs.declared.program.Qualifier.TheVariants.{Primary}
use Rattle.lang_meaning.specs.Lookup.{is_in}
use Rattle.lang_meaning.specs.Classes.{precedence, precedence_of, applies, more_specific, among, ordered, applicable, of_kind, chain_of}
use Rattle.lang_meaning.specs.Cells.{argument_classes, group_of, one_of_each, groups, tuples, chain_length, tuple_cells, generic_cells}
use Rattle.lang_dispatch.specs.OfClasses.{with_classes}
use Rattle.front_cells.specs.Copies.{IsCopy, AddsNothing}
use Rattle.front_cells.specs.Groups.{groups_to}
use Rattle.front_cells.specs.Counts.{specialised}
use Rattle.front_cells.proofs.Counting.{copy_more}

-- ---- two programs whose first classes have the same precedence lists

pub record AreAlike (n : ℕ) (P Q : ProgramRows) : Type 0 where
  pub alike : (c : ℕ) → c < n → precedence P c ≡ precedence Q c

abbrev AreFirst : ℕ → List ℕ → Type 0
AreFirst n [] = Unit {0}
AreFirst n (c ∷ cs) = (c < n) × AreFirst n cs

applies_alike : (n : ℕ) (P Q : ProgramRows) → AreAlike n P Q → (cs ms : List ℕ) → AreFirst n cs → applies P cs ms ≡ applies Q cs ms
applies_alike n P Q same [] [] first = refl
applies_alike n P Q same [] (m ∷ ms) first = refl
applies_alike n P Q same (c ∷ cs) [] first = refl
applies_alike n P Q same (c ∷ cs) (m ∷ ms) first =
    ap (λ line. is_in m line && applies P cs ms) (same.alike c first.0) ∙ ap (λ b. is_in m (precedence Q c) && b) (applies_alike n P Q same cs ms first.1)

specific_alike : (n : ℕ) (P Q : ProgramRows) → AreAlike n P Q → (cs ms ns : List ℕ) → AreFirst n cs → more_specific P cs ms ns ≡ more_specific Q cs ms ns
specific_alike n P Q same [] ms ns first = refl
specific_alike n P Q same (c ∷ cs) [] ns first = refl
specific_alike n P Q same (c ∷ cs) (m ∷ ms) [] first = refl
specific_alike n P Q same (c ∷ cs) (m ∷ ms) (k ∷ ks) first =
    ap (λ b. if m == k then b else nat_lt (position_or_len (λ d. d == m) (precedence P c)) (position_or_len (λ d. d == k) (precedence P c)))
    (specific_alike n P Q same cs ms ks first.1)
    ∙ ap (λ line. if m == k then more_specific Q cs ms ks else nat_lt (position_or_len (λ d. d == m) line) (position_or_len (λ d. d == k) line)) (same.alike c first.0)

filter_alike : (p q : MethodRow → Bool) → ((m : MethodRow) → p m ≡ q m) → (ms : List MethodRow) → filter p ms ≡ filter q ms
filter_alike p q same [] = refl
filter_alike p q same (m ∷ ms) =
    ap (λ b. if b then m ∷ filter p ms else filter p ms) (same m) ∙ ap (λ ks. if q m then m ∷ ks else ks) (filter_alike p q same ms)

among_alike : (p q : MethodRow → MethodRow → Bool) → ((m n : MethodRow) → p m n ≡ q m n) → (m : MethodRow) (ms : List MethodRow) → among p m ms ≡ among q m ms
among_alike p q same m [] = refl
among_alike p q same m (n ∷ ns) =
    ap (λ b. if b then m ∷ n ∷ ns else n ∷ among p m ns) (same m n) ∙ ap (λ ks. if q m n then m ∷ n ∷ ns else n ∷ ks) (among_alike p q same m ns)

ordered_alike : (p q : MethodRow → MethodRow → Bool) → ((m n : MethodRow) → p m n ≡ q m n) → (ms : List MethodRow) → ordered p ms ≡ ordered q ms
ordered_alike p q same [] = refl
ordered_alike p q same (m ∷ ms) = ap (among p m) (ordered_alike p q same ms) ∙ among_alike p q same m (ordered q ms)

applicable_alike : (n : ℕ) (P Q : ProgramRows) → AreAlike n P Q → (cs : List ℕ) (ms : List MethodRow) → AreFirst n cs → applicable P cs ms ≡ applicable Q cs ms
applicable_alike n P Q same cs ms first =
    ap (ordered (λ m k. more_specific P cs m.classes k.classes))
    (filter_alike (λ m. applies P cs m.classes) (λ m. applies Q cs m.classes) (λ m. applies_alike n P Q same cs m.classes first) ms)
    ∙ ordered_alike (λ m k. more_specific P cs m.classes k.classes) (λ m k. more_specific Q cs m.classes k.classes)
    (λ m k. specific_alike n P Q same cs m.classes k.classes first) (filter (λ m. applies Q cs m.classes) ms)

cells_alike : (n : ℕ) (P Q : ProgramRows) → AreAlike n P Q → (g : GenericRow) (cs : List ℕ) → AreFirst n cs → tuple_cells P g cs ≡ tuple_cells Q g cs
cells_alike n P Q same g cs first =
    ap (λ ms. 1 + chain_length (chain_of ms (of_kind Primary ms))) (applicable_alike n P Q same cs g.methods first)

-- ---- groups of the first classes

group_alike : (n : ℕ) (P Q : ProgramRows) → AreAlike n P Q → (column : List ℕ) (c : ℕ) → c < n → group_of P column c ≡ group_of Q column c
group_alike n P Q same column c h = ap (filter (λ d. is_in d column)) (same.alike c h)

any_alike : (p q : ℕ → Bool) (n : ℕ) → ((c : ℕ) → c < n → p c ≡ q c) → (cs : List ℕ) → AreFirst n cs → list_any p cs ≡ list_any q cs
any_alike p q n same [] first = refl
any_alike p q n same (c ∷ cs) first = cc (same c first.0, any_alike p q n same cs first.1)

one_alike : (f g : ℕ → List ℕ) (n : ℕ) → ((c : ℕ) → c < n → f c ≡ g c) → (seen cs : List ℕ) → AreFirst n seen → AreFirst n cs → one_of_each f seen cs ≡ one_of_each g seen cs
one_alike f g n same seen [] s first = refl
one_alike f g n same seen (c ∷ cs) s first =
    let rest : one_of_each f (c ∷ seen) cs ≡ one_of_each g (c ∷ seen) cs = one_alike f g n same (c ∷ seen) cs (first.0, s) first.1 in
    let test : list_any (λ d. bytes_eq (f c) (f d)) seen ≡ list_any (λ d. bytes_eq (g c) (g d)) seen =
    any_alike (λ d. bytes_eq (f c) (f d)) (λ d. bytes_eq (g c) (g d)) n
    (λ d h. ap (λ x. bytes_eq x (f d)) (same c first.0) ∙ ap (bytes_eq (g c)) (same d h)) seen s in
    ap (λ b. (if b then [] else c ∷ []) ++ one_of_each f (c ∷ seen) cs) test
    ∙ ap (λ ks. (if list_any (λ d. bytes_eq (g c) (g d)) seen then [] else c ∷ []) ++ ks) rest

range_first : (n a k : ℕ) → a + k ≤ n → AreFirst n (range_with_len a k)
range_first n a zero h = tt
range_first n a (suc k) h = (omega (arith, h), range_first n (a + 1) k (omega (arith, h)))

front_first : (n : ℕ) (b : Bool) (c : ℕ) (cs : List ℕ) → c < n → AreFirst n cs → AreFirst n ((if b then [] else c ∷ []) ++ cs)
front_first n true c cs h first = first
front_first n false c cs h first = (h, first)

one_first : (n : ℕ) (f : ℕ → List ℕ) (seen cs : List ℕ) → AreFirst n cs → AreFirst n (one_of_each f seen cs)
one_first n f seen [] first = tt
one_first n f seen (c ∷ cs) first =
    front_first n (list_any (λ d. bytes_eq (f c) (f d)) seen) c (one_of_each f (c ∷ seen) cs) first.0 (one_first n f (c ∷ seen) cs first.1)

-- the groups of the first classes, at each argument
abbrev groups_at : List ClassRow → GenericRow → ℕ → ℕ → List ℕ
groups_at rows g n argument = groups_to rows (argument_classes g argument) n

-- the tuples of them
abbrev tuples_to : List ClassRow → GenericRow → ℕ → List (List ℕ)
tuples_to rows g n = tuples (map (groups_at rows g n) (range_with_len 0 g.required))

-- the cells that a generic function has when only the first classes are there
abbrev pub cells_to : List ClassRow → GenericRow → ℕ → ℕ
cells_to rows g n = n * specialised g + sum_by (tuple_cells (with_classes rows) g) (tuples_to rows g n)

-- tuples of first classes
abbrev AreTuplesOfFirst : ℕ → List (List ℕ) → Type 0
AreTuplesOfFirst n [] = Unit {0}
AreTuplesOfFirst n (t ∷ ts) = AreFirst n t × AreTuplesOfFirst n ts

both_first : (n : ℕ) (ts us : List (List ℕ)) → AreTuplesOfFirst n ts → AreTuplesOfFirst n us → AreTuplesOfFirst n (ts ++ us)
both_first n [] us h k = k
both_first n (t ∷ ts) us h k = (h.0, both_first n ts us h.1 k)

each_first : (n c : ℕ) (ts : List (List ℕ)) → c < n → AreTuplesOfFirst n ts → AreTuplesOfFirst n (map (λ t. c ∷ t) ts)
each_first n c [] b h = tt
each_first n c (t ∷ ts) b h = ((b, h.0), each_first n c ts b h.1)

fan_first : (n : ℕ) (cs : List ℕ) (ts : List (List ℕ)) → AreFirst n cs → AreTuplesOfFirst n ts → AreTuplesOfFirst n (flat_map (λ c. map (λ t. c ∷ t) ts) cs)
fan_first n [] ts first h = tt
fan_first n (c ∷ cs) ts first h =
    both_first n (map (λ t. c ∷ t) ts) (flat_map (λ c. map (λ t. c ∷ t) ts) cs) (each_first n c ts first.0 h) (fan_first n cs ts first.1 h)

tuples_first : (n : ℕ) (f : ℕ → List ℕ) → ((i : ℕ) → AreFirst n (f i)) → (is : List ℕ) → AreTuplesOfFirst n (tuples (map f is))
tuples_first n f h [] = (tt, tt)
tuples_first n f h (i ∷ is) = fan_first n (f i) (tuples (map f is)) (h i) (tuples_first n f h is)

sums_alike : (f g : List ℕ → ℕ) (n : ℕ) → ((cs : List ℕ) → AreFirst n cs → f cs ≡ g cs) → (ts : List (List ℕ)) → AreTuplesOfFirst n ts → sum_by f ts ≡ sum_by g ts
sums_alike f g n same [] h = refl
sums_alike f g n same (t ∷ ts) h = omega (arith, sum_by-cons f t ts, sum_by-cons g t ts, same t h.0, sums_alike f g n same ts h.1)

map_alike : (f g : ℕ → List ℕ) → ((i : ℕ) → f i ≡ g i) → (is : List ℕ) → map f is ≡ map g is
map_alike f g same [] = refl
map_alike f g same (i ∷ is) = cc (same i, map_alike f g same is)

-- ---- with the first rows alone

front_rows : (rows : List ClassRow) (n c : ℕ) → c < n → slice_get (take n rows) c ≡ slice_get rows c
front_rows rows zero c h = absurd (omega (arith, h))
front_rows [] (suc n) c h = refl
front_rows (row ∷ rows) (suc n) zero h = refl
front_rows (row ∷ rows) (suc n) (suc c) h = front_rows rows n c (omega (arith, h))

rows_alike : (rows : List ClassRow) (n : ℕ) → AreAlike n (with_classes (take n rows)) (with_classes rows)
rows_alike rows n = record { alike = λ c h. ap precedence_of (front_rows rows n c h) }

taken_length : (rows : List ClassRow) (n : ℕ) → n ≤ length rows → length (take n rows) ≡ n
taken_length rows zero h = refl
taken_length [] (suc n) h = absurd (omega (arith, h))
taken_length (row ∷ rows) (suc n) h = ap suc (taken_length rows n (omega (arith, h)))

pub first_cells : (rows : List ClassRow) (g : GenericRow) (n : ℕ) → n ≤ length rows → generic_cells (with_classes (take n rows)) g ≡ cells_to rows g n
first_cells rows g n h =
    let few : List ClassRow = take n rows in
    let same = rows_alike rows n in
    let count : length few ≡ n = taken_length rows n h in
    let each : (i : ℕ) → groups (with_classes few) g i ≡ groups_at rows g n i =
    λ i.
    ap (λ k. one_of_each (group_of (with_classes few) (argument_classes g i)) [] (range_with_len 0 k)) count
    ∙ one_alike (group_of (with_classes few) (argument_classes g i)) (group_of (with_classes rows) (argument_classes g i)) n
    (λ c k. group_alike n (with_classes few) (with_classes rows) same (argument_classes g i) c k) [] (range_with_len 0 n) tt (range_first n 0 n (omega arith)) in
    let all : tuples (map (groups (with_classes few) g) (range_with_len 0 g.required)) ≡ tuples_to rows g n =
    ap tuples (map_alike (groups (with_classes few) g) (groups_at rows g n) each (range_with_len 0 g.required)) in
    let firsts : AreTuplesOfFirst n (tuples_to rows g n) =
    tuples_first n (groups_at rows g n)
    (λ i. one_first n (group_of (with_classes rows) (argument_classes g i)) [] (range_with_len 0 n) (range_first n 0 n (omega arith))) (range_with_len 0 g.required) in
    ap (λ k. k * specialised g + sum_by (tuple_cells (with_classes few) g) (tuples (map (groups (with_classes few) g) (range_with_len 0 g.required)))) count
    ∙ (ap (λ ts. n * specialised g + sum_by (tuple_cells (with_classes few) g) ts) all
    ∙ ap (λ k. n * specialised g + k)
    (sums_alike (tuple_cells (with_classes few) g) (tuple_cells (with_classes rows) g) n (λ cs k. cells_alike n (with_classes few) (with_classes rows) same g cs k) (tuples_to rows g n) firsts))

-- a class that adds no group adds a cell for each specialised argument
pub nothing_added : (rows : List ClassRow) (g : GenericRow) (class : ℕ) → AddsNothing rows g class → cells_to rows g (class + 1) ≡ cells_to rows g class + specialised g
nothing_added rows g class h =
    let all : tuples_to rows g (class + 1) ≡ tuples_to rows g class = ap tuples (maps 0 g.required (omega arith)) in
    let sums : sum_by (tuple_cells (with_classes rows) g) (tuples_to rows g (class + 1)) ≡ sum_by (tuple_cells (with_classes rows) g) (tuples_to rows g class) =
    ap (sum_by (tuple_cells (with_classes rows) g)) all in
    let product : (class + 1) * specialised g ≡ class * specialised g + 1 * specialised g = add-mul class 1 (specialised g) in
    omega (arith, sums, product)
  where
    maps : (a k : ℕ) → a + k ≤ g.required → map (groups_at rows g (class + 1)) (range_with_len a k) ≡ map (groups_at rows g class) (range_with_len a k)
    maps a zero b = refl
    maps a (suc k) b =
        let here : groups_at rows g (class + 1) a ≡ groups_at rows g class a = copy_more rows (argument_classes g a) class (h a (omega (arith, b))) in
        let rest : map (groups_at rows g (class + 1)) (range_with_len (a + 1) k) ≡ map (groups_at rows g class) (range_with_len (a + 1) k) = maps (a + 1) k (omega (arith, b)) in
        cc

-- an argument more at which a class is a copy
pub nothing_more : (rows : List ClassRow) (g : GenericRow) (class argument : ℕ) → ((i : ℕ) → i < argument → IsCopy rows (argument_classes g i) class) →
    IsCopy rows (argument_classes g argument) class → (i : ℕ) → i < argument + 1 → IsCopy rows (argument_classes g i) class
nothing_more rows g class argument h copy i b = elim (i == argument) as (λ v. (i == argument) ≡ v → IsCopy rows (argument_classes g i) class) [
  | true ↦ λ e. subst (λ (k : ℕ). IsCopy rows (argument_classes g k) class) (sym (eqb-true i argument e)) copy
  | false ↦ λ e. let other : i < argument = grind (arith, nat_tests) in h i other
] refl

-- where all classes are there
pub all_cells_there : (rows : List ClassRow) (g : GenericRow) (n most : ℕ) → n ≡ length rows → min (cells_to rows g n) 262145 ≤ most → min (generic_cells (with_classes rows) g) 262145 ≤ most
all_cells_there rows g n most e h = subst (λ (k : ℕ). min (cells_to rows g k) 262145 ≤ most) e h

-- without a method there is one group

none_in : (ds : List ℕ) → filter (λ d. is_in d []) ds ≡ []
none_in [] = refl
none_in (d ∷ ds) = none_in ds

empty_group : (rows : List ClassRow) (column : List ℕ) (class : ℕ) → column ≡ [] → group_of (with_classes rows) column class ≡ []
empty_group rows column class e =
    ap (λ ks. filter (λ d. is_in d ks) (precedence (with_classes rows) class)) e ∙ none_in (precedence (with_classes rows) class)

no_classes : (argument : ℕ) (ms : List MethodRow) → length ms ≡ 0 → map (λ (m : MethodRow). slice_index_or m.classes argument 0) ms ≡ []
no_classes argument [] e = refl
no_classes argument (m ∷ ms) e = absurd (omega (arith, e))

pub one_group : (rows : List ClassRow) (g : GenericRow) (class : ℕ) → (length g.methods ≡ 0) × (0 < class) → AddsNothing rows g class
one_group rows g class h argument b =
    let none : argument_classes g argument ≡ [] = no_classes argument g.methods h.0 in
    (0, (h.1, empty_group rows (argument_classes g argument) class none ∙ sym (empty_group rows (argument_classes g argument) 0 none)))
