-- No fewer than the cells of dispatch tables: groups of classes, combinations of groups, and methods that apply.
use Rattle.std.proofs.Common.{◌≡◌, ℕ, zero, suc, ◌+◌, ◌-◌, ◌*◌, ◌==◌, ◌<◌, ◌≤◌, ◌⊎◌, inl, inr, ⊎_elim, Bool, true, false, not, ◌&&◌, ◌||◌, cond, List, [], ◌∷◌, ◌++◌, length, map, filter, Option, Some, None, IfSome, slice_get, drop, if◌then◌else◌, refl, ap, sym, ◌∙◌, arith, length-append}
use Rattle.std.specs.List.{range_with_len, list_any, sum_by, flat_map}
use Rattle.std.specs.Prelude.{slice_index_or}
use Rattle.std.specs.Str.{bytes_eq}
use Rattle.std.proofs.lemmas.Bool.{eqb-true}
use Rattle.std.proofs.lemmas.Bool.Decides.{nat_tests}
use Rattle.std.proofs.lemmas.List.{length-map, length-reverse, drop_all}
use Rattle.std.proofs.lemmas.List.FromFn.{length-range_with_len}
use Rattle.std.proofs.lemmas.List.Sums.{sum_by-append, sum_by-cons}
use Rattle.std.proofs.Math.Nat.{mul_assoc, mul_comm, add-mul, mul-le-mul_left, mul-le-mul_right}
use Rattle.lang_meaning.specs.declared.program.ClassRow.{ClassRow}
use Rattle.lang_meaning.specs.declared.program.GenericRow.{GenericRow}
use Rattle.lang_meaning.specs.declared.program.MethodRow.{MethodRow}
use Rattle.lang_meaning.specs.declared.program.ProgramRows.{ProgramRows}
use Rattle.lang_meaning.specs.declared.program.Qualifier.{Qualifier}
use Rattle.lang_meaning.specs.declared.program.Qualifier.TheVariants.{Primary, Around, Before, After}
use Rattle.lang_meaning.specs.Cells.{argument_classes, is_specialised, group_of, one_of_each, groups, tuples, chain_length, tuple_cells, generic_cells}
use Rattle.lang_meaning.specs.Classes.{applies, more_specific, among, ordered, applicable, is_qualifier, of_kind, chain_of, precedence, precedence_of}
use Rattle.lang_meaning.specs.Lookup.{all_differ, is_in}
use Rattle.base.specs.bridge.Counted.{sum_left, sum_alike}
use Rattle.base.specs.model.DataRest.{rest_at}
use Rattle.lang_dispatch.specs.OfClasses.{with_classes}
use Rattle.front_profile.specs.declared.tables.Tables.{Tables}
use Rattle.front_scope.specs.Scopes.{cells_of}
use Rattle.front_scope.proofs.ClassCounts.{either_few}
use Rattle.front_scope.specs.Below.{one_if, below, special_below, special_at, is_special_at, places}

-- ---- sums

-- one sum is no more than another, item by item
pub sum_more : {X : Type 0} (f g : X → ℕ) → ((x : X) → f x ≤ g x) → (xs : List X) → sum_by f xs ≤ sum_by g xs
sum_more f g h [] = omega arith
sum_more f g h (x ∷ xs) = omega (arith, sum_by-cons f x xs, sum_by-cons g x xs, h x, sum_more f g h xs)

both_sums : {X : Type 0} (f g : X → ℕ) (xs : List X) → sum_by (λ x. f x + g x) xs ≡ sum_by f xs + sum_by g xs
both_sums f g [] = omega arith
both_sums f g (x ∷ xs) = omega (arith, sum_by-cons (λ x. f x + g x) x xs, sum_by-cons f x xs, sum_by-cons g x xs, both_sums f g xs)

no_sum : {X : Type 0} (xs : List X) → sum_by (λ x. 0) xs ≡ 0
no_sum [] = refl
no_sum (x ∷ xs) = omega (arith, sum_by-cons (λ x. 0) x xs, no_sum xs)

ones : {X : Type 0} (xs : List X) → sum_by (λ x. 1) xs ≡ length xs
ones [] = refl
ones (x ∷ xs) = omega (arith, sum_by-cons (λ x. 1) x xs, ones xs)

-- sums of sums in either order
pub turned : {X Y : Type 0} (f : X → Y → ℕ) (xs : List X) (ys : List Y) → sum_by (λ x. sum_by (f x) ys) xs ≡ sum_by (λ y. sum_by (λ x. f x y) xs) ys
turned f [] ys = sym (no_sum ys)
turned f (x ∷ xs) ys =
    let step : sum_by (λ y. sum_by (λ x. f x y) (x ∷ xs)) ys ≡ sum_by (f x) ys + sum_by (λ y. sum_by (λ x. f x y) xs) ys =
    sum_alike (λ y. sum_by (λ x. f x y) (x ∷ xs)) (λ y. f x y + sum_by (λ x. f x y) xs) (λ y. sum_by-cons (λ x. f x y) x xs) ys
    ∙ both_sums (f x) (λ y. sum_by (λ x. f x y) xs) ys in
    omega (arith, sum_by-cons (λ x. sum_by (f x) ys) x xs, turned f xs ys, step)

sum_times : {X : Type 0} (f : X → ℕ) (k : ℕ) (xs : List X) → sum_by (λ x. f x * k) xs ≡ sum_by f xs * k
sum_times f k [] = omega arith
sum_times f k (x ∷ xs) =
    omega (arith, sum_by-cons (λ x. f x * k) x xs, sum_times f k xs, ap (λ n. n * k) (sum_by-cons f x xs), add-mul (f x) (sum_by f xs) k)

pub sum_map : {X Y : Type 0} (f : X → Y) (g : Y → ℕ) (xs : List X) → sum_by g (map f xs) ≡ sum_by (λ x. g (f x)) xs
sum_map f g [] = refl
sum_map f g (x ∷ xs) = omega (arith, sum_by-cons g (f x) (map f xs), sum_by-cons (λ x. g (f x)) x xs, sum_map f g xs)

or_true : (a b : Bool) → b ≡ true → (a || b) ≡ true
or_true true b h = refl
or_true false b h = h

second_few : (a b : Bool) → one_if (a && b) ≤ one_if b
second_few true b = omega arith
second_few false b = omega arith

plus_one : (c : ℕ) → c + 1 ≡ suc c
plus_one c = omega arith

and_left : (a b : Bool) → (a && b) ≡ false → b ≡ true → a ≡ false
and_left true b h t = absurd (cc (h, t))
and_left false b h t = refl

-- ---- groups: at most one for each class

-- one that was seen is no new one
abbrev new_of : Bool → ℕ
new_of true = 0
new_of false = 1

front : (b : Bool) (c : ℕ) (xs : List ℕ) → length ((if b then [] else c ∷ []) ++ xs) ≡ new_of b + length xs
front true c xs = omega arith
front false c xs = omega arith

one_at_most : (b : Bool) → new_of b ≤ 1
one_at_most true = omega arith
one_at_most false = omega arith

front_sum : (f : ℕ → ℕ) (b : Bool) (c : ℕ) (xs : List ℕ) → sum_by f ((if b then [] else c ∷ []) ++ xs) ≤ f c + sum_by f xs
front_sum f true c xs = omega arith
front_sum f false c xs = omega (arith, sum_by-cons f c xs)

each_few : (group : ℕ → List ℕ) (seen cs : List ℕ) → length (one_of_each group seen cs) ≤ length cs
each_few group seen [] = omega arith
each_few group seen (c ∷ cs) =
    let b : Bool = list_any (λ d. bytes_eq (group c) (group d)) seen in
    omega (arith, front b c (one_of_each group (c ∷ seen) cs), one_at_most b, each_few group (c ∷ seen) cs)

each_sum : (f : ℕ → ℕ) (group : ℕ → List ℕ) (seen cs : List ℕ) → sum_by f (one_of_each group seen cs) ≤ sum_by f cs
each_sum f group seen [] = omega arith
each_sum f group seen (c ∷ cs) =
    let b : Bool = list_any (λ d. bytes_eq (group c) (group d)) seen in
    omega (arith, front_sum f b c (one_of_each group (c ∷ seen) cs), sum_by-cons f c cs, each_sum f group (c ∷ seen) cs)

-- ---- at most two more than the classes for which something holds, where the groups of all others are of two kinds: what stands below
-- `<object>`, and what does not

or_few : (x a : Bool) → new_of (x || a) ≤ new_of a
or_few true a = omega arith
or_few false a = omega arith

few_groups : (group : ℕ → List ℕ) (p : ℕ → Bool) (seen cs : List ℕ) (a b : Bool) → ((c : ℕ) → p c ≡ false → (group c ≡ []) ⊎ (group c ≡ 0 ∷ [])) →
    list_any (λ d. bytes_eq [] (group d)) seen ≡ a → list_any (λ d. bytes_eq (0 ∷ []) (group d)) seen ≡ b →
    length (one_of_each group seen cs) ≤ new_of a + new_of b + sum_by (λ c. one_if (p c)) cs
few_groups group p seen [] a b two ha hb = omega arith
few_groups group p seen (c ∷ cs) a b two ha hb =
    elim (p c) as (λ v. p c ≡ v → length (one_of_each group seen (c ∷ cs)) ≤ new_of a + new_of b + sum_by (λ c. one_if (p c)) (c ∷ cs)) [
      | true ↦ λ e.
          let test : Bool = list_any (λ d. bytes_eq (group c) (group d)) seen in
          let rest = few_groups group p (c ∷ seen) cs (bytes_eq [] (group c) || a) (bytes_eq (0 ∷ []) (group c) || b) two
          (ap (λ x. bytes_eq [] (group c) || x) ha) (ap (λ x. bytes_eq (0 ∷ []) (group c) || x) hb) in
          omega (
            arith,
            front test c (one_of_each group (c ∷ seen) cs),
            one_at_most test,
            or_few (bytes_eq [] (group c)) a,
            or_few (bytes_eq (0 ∷ []) (group c)) b,
            sum_by-cons (λ c. one_if (p c)) c cs,
            ap one_if e,
            rest,
          )
      | false ↦ λ e.
          ⊎_elim
          (λ g.
          let test : list_any (λ d. bytes_eq (group c) (group d)) seen ≡ a = ap (λ x. list_any (λ d. bytes_eq x (group d)) seen) g ∙ ha in
          let first : (bytes_eq [] (group c) || list_any (λ d. bytes_eq [] (group d)) seen) ≡ true =
          ap (λ x. bytes_eq [] x || list_any (λ d. bytes_eq [] (group d)) seen) g in
          let other : (bytes_eq (0 ∷ []) (group c) || list_any (λ d. bytes_eq (0 ∷ []) (group d)) seen) ≡ b =
          ap (λ x. bytes_eq (0 ∷ []) x || list_any (λ d. bytes_eq (0 ∷ []) (group d)) seen) g ∙ hb in
          let here : new_of (list_any (λ d. bytes_eq (group c) (group d)) seen) ≡ new_of a = ap new_of test in
          let rest = few_groups group p (c ∷ seen) cs true b two first other in
          omega (
            arith,
            front (list_any (λ d. bytes_eq (group c) (group d)) seen) c (one_of_each group (c ∷ seen) cs),
            here,
            rest,
            sum_by-cons (λ c. one_if (p c)) c cs,
          ))
          (λ g.
          let test : list_any (λ d. bytes_eq (group c) (group d)) seen ≡ b = ap (λ x. list_any (λ d. bytes_eq x (group d)) seen) g ∙ hb in
          let first : (bytes_eq [] (group c) || list_any (λ d. bytes_eq [] (group d)) seen) ≡ a =
          ap (λ x. bytes_eq [] x || list_any (λ d. bytes_eq [] (group d)) seen) g ∙ ha in
          let other : (bytes_eq (0 ∷ []) (group c) || list_any (λ d. bytes_eq (0 ∷ []) (group d)) seen) ≡ true =
          ap (λ x. bytes_eq (0 ∷ []) x || list_any (λ d. bytes_eq (0 ∷ []) (group d)) seen) g in
          let here : new_of (list_any (λ d. bytes_eq (group c) (group d)) seen) ≡ new_of b = ap new_of test in
          let rest = few_groups group p (c ∷ seen) cs a true two first other in
          omega (
            arith,
            front (list_any (λ d. bytes_eq (group c) (group d)) seen) c (one_of_each group (c ∷ seen) cs),
            here,
            rest,
            sum_by-cons (λ c. one_if (p c)) c cs,
          ))
          (two c e)
    ] refl

-- of a list without repetition, what is 0
or_first : (a b : Bool) → (a || b) ≡ false → a ≡ false
or_first true b h = h
or_first false b h = refl

or_second : (a b : Bool) → (a || b) ≡ false → b ≡ false
or_second true b h = absurd (cc h)
or_second false b h = h

and_first : (a b : Bool) → (not a && b) ≡ true → a ≡ false
and_first true b h = absurd (cc h)
and_first false b h = refl

and_second : (a b : Bool) → (not a && b) ≡ true → b ≡ true
and_second true b h = absurd (cc h)
and_second false b h = h

kept : (b : Bool) (x : ℕ) (p : ℕ → Bool) (xs : List ℕ) → p x ≡ b → filter p (x ∷ xs) ≡ (if b then x ∷ filter p xs else filter p xs)
kept b x p xs h = ap (λ v. if v then x ∷ filter p xs else filter p xs) h

-- what is in the rest of a list is in it
in_rest : (d x : ℕ) (xs : List ℕ) → is_in d xs ≡ true → is_in d (x ∷ xs) ≡ true
in_rest d x xs h = or_true (d == x) (is_in d xs) h

itself : (n : ℕ) → (n == n) ≡ true
itself n = grind (arith, nat_tests)

in_front : (d : ℕ) (xs : List ℕ) → is_in d (d ∷ xs) ≡ true
in_front d xs = ap (λ b. b || is_in d xs) (itself d)

none_kept : (p : ℕ → Bool) (xs : List ℕ) → ((d : ℕ) → is_in d xs ≡ true → p d ≡ true → d ≡ 0) → list_any (λ y. 0 == y) xs ≡ false → filter p xs ≡ []
none_kept p [] zeros h = refl
none_kept p (x ∷ xs) zeros h = elim (p x) as (λ b. p x ≡ b → filter p (x ∷ xs) ≡ []) [
  | true ↦ λ e.
      let x_is : x ≡ 0 = zeros x (in_front x xs) e in
      let differs : (0 == x) ≡ false = or_first (0 == x) (list_any (λ y. 0 == y) xs) h in
      let same : (0 == 0) ≡ false = ap (λ y. 0 == y) (sym x_is) ∙ differs in
      absurd (cc)
  | false ↦ λ e. kept false x p xs e ∙ none_kept p xs (λ d k. zeros d (in_rest d x xs k)) (or_second (0 == x) (list_any (λ y. 0 == y) xs) h)
] refl

zero_kept : (p : ℕ → Bool) (xs : List ℕ) → ((d : ℕ) → is_in d xs ≡ true → p d ≡ true → d ≡ 0) → all_differ (λ d e. d == e) xs ≡ true → (filter p xs ≡ []) ⊎ (filter p xs ≡ 0 ∷ [])
zero_kept p [] zeros h = inl refl
zero_kept p (x ∷ xs) zeros h = elim (p x) as (λ b. p x ≡ b → (filter p (x ∷ xs) ≡ []) ⊎ (filter p (x ∷ xs) ≡ 0 ∷ [])) [
  | true ↦ λ e.
      let x_is : x ≡ 0 = zeros x (in_front x xs) e in
      let others : list_any (λ y. x == y) xs ≡ false = and_first (list_any (λ y. x == y) xs) (all_differ (λ d e. d == e) xs) h in
      let none : filter p xs ≡ [] = none_kept p xs (λ d k. zeros d (in_rest d x xs k)) (ap (λ z. list_any (λ y. z == y) xs) (sym x_is) ∙ others) in
      inr (kept true x p xs e ∙ ap (λ ys. x ∷ ys) none ∙ ap (λ z. z ∷ []) x_is)
  | false ↦ λ e.
      ⊎_elim
      (λ k. inl (kept false x p xs e ∙ k))
      (λ k. inr (kept false x p xs e ∙ k))
      (zero_kept p xs (λ d k. zeros d (in_rest d x xs k)) (and_second (list_any (λ y. x == y) xs) (all_differ (λ d e. d == e) xs) h))
] refl

not_false : (b : Bool) → not b ≡ false → b ≡ true
not_false true e = refl
not_false false e = absurd (cc e)

-- whether a class that methods have at an argument is another than `<object>` and stands in a list
abbrev is_above : List ℕ → ℕ → Bool
is_above line k = not (k == 0) && is_in k line

-- where there is none, what is both in the list and among these classes is 0
in_none_above : (line ks : List ℕ) (d : ℕ) → list_any (is_above line) ks ≡ false → is_in d line ≡ true → is_in d ks ≡ true → d ≡ 0
in_none_above line [] d z l h = absurd (cc h)
in_none_above line (k ∷ ks) d z l h = elim (d == k) as (λ b. (d == k) ≡ b → (b || is_in d ks) ≡ true → d ≡ 0) [
  | true ↦ λ e more.
      let d_is : d ≡ k = eqb-true d k e in
      let here : is_in k line ≡ true = ap (λ x. is_in x line) (sym d_is) ∙ l in
      let none : is_above line k ≡ false = or_first (is_above line k) (list_any (is_above line) ks) z in
      d_is ∙ eqb-true k 0 (not_false (k == 0) (and_left (not (k == 0)) (is_in k line) none here))
  | false ↦ λ e more. in_none_above line ks d (or_second (is_above line k) (list_any (is_above line) ks) z) l more
] refl h

pub any_map : {X Y : Type 0} (f : X → Y) (p : Y → Bool) (xs : List X) → list_any p (map f xs) ≡ list_any (λ x. p (f x)) xs
any_map f p [] = refl
any_map f p (x ∷ xs) = ap (λ b. p (f x) || b) (any_map f p xs)

-- how many classes of a program have a class in their precedence lists, counted by their numbers
abbrev counted_below : ProgramRows → List ℕ → ℕ → ℕ
counted_below P cs k = sum_by (λ c. one_if (is_in k (precedence P c))) cs

abbrev counted_special : ProgramRows → List ℕ → ℕ → ℕ
counted_special P cs k = sum_by (λ c. one_if (is_above (precedence P c) k)) cs

any_few : (q : ℕ → Bool) (ks : List ℕ) → one_if (list_any q ks) ≤ sum_by (λ k. one_if (q k)) ks
any_few q [] = omega arith
any_few q (k ∷ ks) = omega (arith, sum_by-cons (λ k. one_if (q k)) k ks, either_few (q k) (list_any q ks), any_few q ks)

-- the groups at an argument: two, and one for each class below one that a method has there
pub special_few : (P : ProgramRows) (g : GenericRow) (argument : ℕ) → ((c : ℕ) → all_differ (λ d e. d == e) (precedence P c) ≡ true) →
    length (groups P g argument) ≤ 2 + sum_by (counted_special P (range_with_len 0 (length P.classes))) (argument_classes g argument)
special_few P g argument once =
    let ks : List ℕ = argument_classes g argument in
    let cs : List ℕ = range_with_len 0 (length P.classes) in
    let p : ℕ → Bool = λ c. list_any (is_above (precedence P c)) ks in
    omega (
      arith,
      few_groups (group_of P ks) p [] cs false false
          (λ c none. zero_kept (λ d. is_in d ks) (precedence P c) (λ d l k. in_none_above (precedence P c) ks d none l k) (once c)) refl refl,
      sum_more (λ c. one_if (p c)) (λ c. sum_by (λ k. one_if (is_above (precedence P c) k)) ks) (λ c. any_few (is_above (precedence P c)) ks) cs,
      turned (λ c k. one_if (is_above (precedence P c) k)) cs ks,
    )

pub specialised_few : (P : ProgramRows) (g : GenericRow) (argument : ℕ) → length (groups P g argument) ≤ length P.classes
specialised_few P g argument =
    omega (
      arith,
      each_few (group_of P (argument_classes g argument)) [] (range_with_len 0 (length P.classes)),
      length-range_with_len 0 (length P.classes),
    )

-- ---- combinations of groups

fan_length : (cs : List ℕ) (ts : List (List ℕ)) → length (flat_map (λ c. map (λ tuple. c ∷ tuple) ts) cs) ≡ length cs * length ts
fan_length [] ts = omega arith
fan_length (c ∷ cs) ts =
    omega (
      arith,
      length-append (map (λ tuple. c ∷ tuple) ts) (flat_map (λ c. map (λ tuple. c ∷ tuple) ts) cs),
      length-map ts (λ tuple. c ∷ tuple),
      fan_length cs ts,
    )

-- an argument more, of those that are specialised
kept_more : (p : ℕ → Bool) (k n : ℕ) (b : Bool) → p k ≡ b → length (filter p (range_with_len k (suc n))) ≡ one_if b + length (filter p (range_with_len (k + 1) n))
kept_more p k n true e = omega (arith, ap (λ v. length (if v then k ∷ filter p (range_with_len (k + 1) n) else filter p (range_with_len (k + 1) n))) e)
kept_more p k n false e = omega (arith, ap (λ v. length (if v then k ∷ filter p (range_with_len (k + 1) n) else filter p (range_with_len (k + 1) n))) e)

pub specialised_more : (g : GenericRow) (k all count next : ℕ) (b : Bool) → k < g.required → b ≡ is_special_at g k → next ≡ count + one_if b →
    all ≤ count + length (filter (is_specialised g) (range_with_len k (g.required - k))) →
    all ≤ next + length (filter (is_specialised g) (range_with_len (k + 1) (g.required - (k + 1))))
specialised_more g k all count next b below_required e n h =
    let left : g.required - k ≡ suc (g.required - (k + 1)) = omega arith in
    let here : is_specialised g k ≡ b = any_map (λ (m : MethodRow). slice_index_or m.classes k 0) (λ c. not (c == 0)) g.methods ∙ sym e in
    omega (
      arith,
      h,
      ap (λ n. length (filter (is_specialised g) (range_with_len k n))) left,
      kept_more (is_specialised g) k (g.required - (k + 1)) b here,
      n,
    )

pub no_specialised_more : (g : GenericRow) (k all count : ℕ) → g.required ≤ k →
    all ≤ count + length (filter (is_specialised g) (range_with_len k (g.required - k))) → all ≤ count
no_specialised_more g k all count past h =
    let left : g.required - k ≡ 0 = omega arith in
    omega (arith, h, ap (λ n. length (filter (is_specialised g) (range_with_len k n))) left)

-- a class more, of those of a method
pub place_more : (rows : List ClassRow) (classes : List ℕ) (i class all most count next : ℕ) → slice_get classes i ≡ Some class → below rows class ≤ count → next ≡ most * count →
    all ≤ most * places rows (drop i classes) → all ≤ next * places rows (drop (i + 1) classes)
place_more rows classes i class all most count next there enough same h =
    let rest : ℕ = places rows (drop (i + 1) classes) in
    let split : most * places rows (drop i classes) ≡ most * below rows class * rest =
    ap (λ left. most * places rows left) (rest_at classes i class there) ∙ sym (mul_assoc most (below rows class) rest)
    in
    let higher : most * below rows class * rest ≤ most * count * rest = mul-le-mul_right rest (mul-le-mul_left most enough) in
    omega (arith, h, split, higher, ap (λ n. n * rest) same)

pub no_place_more : (rows : List ClassRow) (classes : List ℕ) (i all most : ℕ) → length classes ≤ i → all ≤ most * places rows (drop i classes) → all ≤ most
no_place_more rows classes i all most past h = omega (arith, h, ap (λ left. most * places rows left) (drop_all i classes past))

-- those of the arguments from one on
abbrev pub tuples_from : ProgramRows → GenericRow → ℕ → ℕ → List (List ℕ)
tuples_from P g k n = tuples (map (groups P g) (range_with_len k n))

one_argument : (P : ProgramRows) (g : GenericRow) (k n : ℕ) → length (tuples_from P g k (suc n)) ≡ length (groups P g k) * length (tuples_from P g (k + 1) n)
one_argument P g k n = fan_length (groups P g k) (tuples_from P g (k + 1) n)

-- an argument more, with no fewer groups than it has
pub argument_more : (P : ProgramRows) (g : GenericRow) (k all most few next : ℕ) → k < g.required → length (groups P g k) ≤ few → next ≡ most * few →
    all ≤ most * length (tuples_from P g k (g.required - k)) → all ≤ next * length (tuples_from P g (k + 1) (g.required - (k + 1)))
argument_more P g k all most few next below groups_few same h =
    let rest : ℕ = length (tuples_from P g (k + 1) (g.required - (k + 1))) in
    let left : g.required - k ≡ suc (g.required - (k + 1)) = omega arith in
    let split : length (tuples_from P g k (g.required - k)) ≡ length (groups P g k) * rest =
    ap (λ n. length (tuples_from P g k n)) left ∙ one_argument P g k (g.required - (k + 1)) in
    let moved : most * length (tuples_from P g k (g.required - k)) ≡ most * length (groups P g k) * rest =
    ap (λ n. most * n) split ∙ sym (mul_assoc most (length (groups P g k)) rest) in
    let higher : most * length (groups P g k) * rest ≤ most * few * rest = mul-le-mul_right rest (mul-le-mul_left most groups_few) in
    let turned : next * rest ≡ most * few * rest = ap (λ n. n * rest) same in
    omega (arith, h, moved, higher, turned)

pub no_argument_more : (P : ProgramRows) (g : GenericRow) (k all most : ℕ) → g.required ≤ k → all ≤ most * length (tuples_from P g k (g.required - k)) → all ≤ most
no_argument_more P g k all most past h =
    let left : g.required - k ≡ 0 = omega arith in
    let one : length (tuples_from P g k (g.required - k)) ≡ 1 = ap (λ n. length (tuples_from P g k n)) left in
    let same : most * length (tuples_from P g k (g.required - k)) ≡ most * 1 = ap (λ n. most * n) one in
    omega (arith, h, same)

-- ---- a chain has no more methods than there are

kind_cons : (q : Qualifier) (m : MethodRow) (ms : List MethodRow) → length (of_kind q (m ∷ ms)) ≡ (if is_qualifier q m.qualifier then 1 else 0) + length (of_kind q ms)
kind_cons q m ms =
    elim (is_qualifier q m.qualifier)
    as (λ b. length (map (λ m. m.procedure) (cond b (m ∷ filter (λ m. is_qualifier q m.qualifier) ms) (filter (λ m. is_qualifier q m.qualifier) ms)))
    ≡ (if b then 1 else 0) + length (of_kind q ms)) [
      | true ↦ let t : length (m.procedure ∷ of_kind q ms) ≡ 1 + length (of_kind q ms) = omega arith in t
      | false ↦ let t : length (of_kind q ms) ≡ 0 + length (of_kind q ms) = omega arith in t
    ]

one_kind : (q : Qualifier) →
    (if is_qualifier Around q then 1 else 0) + (if is_qualifier Before q then 1 else 0) + (if is_qualifier Primary q then 1 else 0)
    + (if is_qualifier After q then 1 else 0) ≡ 1
one_kind Primary = refl
one_kind Around = refl
one_kind Before = refl
one_kind After = refl

all_kinds : (ms : List MethodRow) → length (of_kind Around ms) + length (of_kind Before ms) + length (of_kind Primary ms) + length (of_kind After ms) ≡ length ms
all_kinds [] = refl
all_kinds (m ∷ ms) =
    omega (arith, all_kinds ms, one_kind m.qualifier, kind_cons Around m ms, kind_cons Before m ms, kind_cons Primary m ms, kind_cons After m ms)

chain_few : (ms : List MethodRow) (ps : List ℕ) → of_kind Primary ms ≡ ps → chain_length (chain_of ms ps) ≤ length ms
chain_few ms [] e = omega arith
chain_few ms (p ∷ ps) e = omega (arith, all_kinds ms, ap length e, length-reverse (of_kind After ms))

among_length : (b : MethodRow → MethodRow → Bool) (m : MethodRow) (ms : List MethodRow) → length (among b m ms) ≡ suc (length ms)
among_length b m [] = refl
among_length b m (n ∷ ns) =
    let rest : length (among b m ns) ≡ suc (length ns) = among_length b m ns in
    elim (b m n) as (λ v. length (if v then m ∷ n ∷ ns else n ∷ among b m ns) ≡ suc (suc (length ns))) [ true ↦ refl | false ↦ ap suc rest ]

ordered_length : (b : MethodRow → MethodRow → Bool) (ms : List MethodRow) → length (ordered b ms) ≡ length ms
ordered_length b [] = refl
ordered_length b (m ∷ ms) = among_length b m (ordered b ms) ∙ ap suc (ordered_length b ms)

-- how many items something holds of
held_of : {X : Type 0} (p : X → Bool) (xs : List X) → length (filter p xs) ≡ sum_by (λ x. one_if (p x)) xs
held_of p [] = refl
held_of p (x ∷ xs) = elim (p x) as (λ b. p x ≡ b → length (filter p (x ∷ xs)) ≡ sum_by (λ x. one_if (p x)) (x ∷ xs)) [
  | true ↦ λ e.
      omega (arith, ap (λ v. length (if v then x ∷ filter p xs else filter p xs)) e, sum_by-cons (λ x. one_if (p x)) x xs, ap one_if e, held_of p xs)
  | false ↦ λ e.
      omega (arith, ap (λ v. length (if v then x ∷ filter p xs else filter p xs)) e, sum_by-cons (λ x. one_if (p x)) x xs, ap one_if e, held_of p xs)
] refl

-- a tuple counts one, and no more than the methods that apply
tuple_few : (P : ProgramRows) (g : GenericRow) (cs : List ℕ) → tuple_cells P g cs ≤ 1 + sum_by (λ m. one_if (applies P cs m.classes)) g.methods
tuple_few P g cs =
    let fit : List MethodRow = filter (λ m. applies P cs m.classes) g.methods in
    omega (
      arith,
      chain_few (applicable P cs g.methods) (of_kind Primary (applicable P cs g.methods)) refl,
      ordered_length (λ m n. more_specific P cs m.classes n.classes) fit,
      held_of (λ (m : MethodRow). applies P cs m.classes) g.methods,
    )

-- ---- a method applies to no more tuples than there are combinations of classes below its own

-- a sum over combinations is one over their first parts, of sums over the others
fan_front : (f : List ℕ → ℕ) (c : ℕ) (ts : List (List ℕ)) → sum_by f (map (λ tuple. c ∷ tuple) ts) ≡ sum_by (λ t. f (c ∷ t)) ts
fan_front f c ts = sum_map (λ tuple. c ∷ tuple) f ts

fan_sum : (f : List ℕ → ℕ) (cs : List ℕ) (ts : List (List ℕ)) → sum_by f (flat_map (λ c. map (λ tuple. c ∷ tuple) ts) cs) ≡ sum_by (λ c. sum_by (λ t. f (c ∷ t)) ts) cs
fan_sum f [] ts = refl
fan_sum f (c ∷ cs) ts =
    omega (
      arith,
      sum_by-append f (map (λ tuple. c ∷ tuple) ts) (flat_map (λ c. map (λ tuple. c ∷ tuple) ts) cs),
      fan_front f c ts,
      fan_sum f cs ts,
      sum_by-cons (λ c. sum_by (λ t. f (c ∷ t)) ts) c cs,
    )

both_one : (a b : Bool) → one_if (a && b) ≡ one_if a * one_if b
both_one true b = omega arith
both_one false b = omega arith

-- the combinations, by the numbers of classes
abbrev places_in : ProgramRows → List ℕ → List ℕ → ℕ
places_in P cs [] = 1
places_in P cs (m ∷ ms) = counted_below P cs m * places_in P cs ms

applied_few : (P : ProgramRows) (g : GenericRow) (ms : List ℕ) (k n : ℕ) →
    sum_by (λ t. one_if (applies P t ms)) (tuples_from P g k n) ≤ places_in P (range_with_len 0 (length P.classes)) ms
applied_few P g [] k zero = omega arith
applied_few P g (m ∷ ms) k zero = omega arith
applied_few P g [] k (suc n) =
    let ts : List (List ℕ) = tuples_from P g (k + 1) n in
    omega (
      arith,
      fan_sum (λ t. one_if (applies P t [])) (groups P g k) ts,
      sum_alike (λ (c : ℕ). sum_by (λ (t : List ℕ). 0) ts) (λ c. 0) (λ c. no_sum ts) (groups P g k),
      no_sum (groups P g k),
    )
applied_few P g (m ∷ ms) k (suc n) =
    let cs : List ℕ = range_with_len 0 (length P.classes) in
    let ts : List (List ℕ) = tuples_from P g (k + 1) n in
    let rest : ℕ = sum_by (λ t. one_if (applies P t ms)) ts in
    let here : ℕ → ℕ = λ c. one_if (is_in m (precedence P c)) in
    let one : (c : ℕ) → sum_by (λ t. one_if (applies P (c ∷ t) (m ∷ ms))) ts ≡ here c * rest =
    λ c.
    sum_alike (λ t. one_if (applies P (c ∷ t) (m ∷ ms))) (λ t. one_if (applies P t ms) * here c)
    (λ t. both_one (is_in m (precedence P c)) (applies P t ms) ∙ mul_comm (here c) (one_if (applies P t ms))) ts
    ∙ (sum_times (λ t. one_if (applies P t ms)) (here c) ts ∙ mul_comm rest (here c))
    in
    let all : sum_by (λ t. one_if (applies P t (m ∷ ms))) (tuples_from P g k (suc n)) ≡ sum_by here (groups P g k) * rest =
    fan_sum (λ t. one_if (applies P t (m ∷ ms))) (groups P g k) ts
    ∙ (sum_alike (λ c. sum_by (λ t. one_if (applies P (c ∷ t) (m ∷ ms))) ts) (λ c. here c * rest) one (groups P g k)
    ∙ sum_times here rest (groups P g k))
    in
    let first : sum_by here (groups P g k) * rest ≤ counted_below P cs m * rest =
    mul-le-mul_right rest (each_sum here (group_of P (argument_classes g k)) [] cs)
    in
    omega (arith, all, first, mul-le-mul_left (counted_below P cs m) (applied_few P g ms (k + 1) n))

-- ---- classes by their rows

shifted : (f : ℕ → ℕ) (a n : ℕ) → sum_by f (range_with_len (a + 1) n) ≡ sum_by (λ c. f (c + 1)) (range_with_len a n)
shifted f a zero = refl
shifted f a (suc n) =
    omega (
      arith,
      sum_by-cons f (a + 1) (range_with_len (a + 1 + 1) n),
      sum_by-cons (λ c. f (c + 1)) a (range_with_len (a + 1) n),
      shifted f (a + 1) n,
    )

by_rows : (f : Option ClassRow → ℕ) (rows : List ClassRow) → sum_by (λ c. f (slice_get rows c)) (range_with_len 0 (length rows)) ≡ sum_by (λ row. f (Some row)) rows
by_rows f [] = refl
by_rows f (row ∷ rows) =
    omega (
      arith,
      sum_by-cons (λ c. f (slice_get (row ∷ rows) c)) 0 (range_with_len 1 (length rows)),
      shifted (λ c. f (slice_get (row ∷ rows) c)) 0 (length rows),
      sum_alike (λ c. f (slice_get (row ∷ rows) (c + 1))) (λ c. f (slice_get rows c)) (λ c. ap (λ n. f (slice_get (row ∷ rows) n)) (plus_one c)) (range_with_len 0 (length rows)),
      by_rows f rows,
      sum_by-cons (λ row. f (Some row)) row rows,
    )

counted_is_below : (rows : List ClassRow) (k : ℕ) → counted_below (with_classes rows) (range_with_len 0 (length rows)) k ≡ below rows k
unfolding below
counted_is_below rows k = by_rows (λ row. one_if (is_in k (precedence_of row))) rows

places_are : (rows : List ClassRow) (ms : List ℕ) → places_in (with_classes rows) (range_with_len 0 (length rows)) ms ≡ places rows ms
places_are rows [] = refl
places_are rows (m ∷ ms) =
    ap (λ n. n * places_in (with_classes rows) (range_with_len 0 (length rows)) ms) (counted_is_below rows m)
    ∙ ap (λ n. below rows m * n) (places_are rows ms)

special_by_zero : (P : ProgramRows) (cs : List ℕ) (k : ℕ) (b : Bool) → (k == 0) ≡ b → counted_special P cs k ≤ (if b then 0 else counted_below P cs k)
special_by_zero P cs k true e =
    omega (
      arith,
      sum_alike (λ c. one_if (is_above (precedence P c) k)) (λ c. 0) (λ c. ap (λ b. one_if (not b && is_in k (precedence P c))) e) cs,
      no_sum cs,
    )
special_by_zero P cs k false e =
    sum_more (λ c. one_if (is_above (precedence P c) k)) (λ c. one_if (is_in k (precedence P c))) (λ c. second_few (not (k == 0)) (is_in k (precedence P c))) cs

special_is : (rows : List ClassRow) (k : ℕ) → counted_special (with_classes rows) (range_with_len 0 (length rows)) k ≤ special_below rows k
special_is rows k =
    elim (k == 0) as (λ b. (k == 0) ≡ b → counted_special (with_classes rows) (range_with_len 0 (length rows)) k ≤ (if b then 0 else below rows k)) [
      | true ↦ λ e. special_by_zero (with_classes rows) (range_with_len 0 (length rows)) k true e
      | false ↦ λ e.
          omega (arith, special_by_zero (with_classes rows) (range_with_len 0 (length rows)) k false e, counted_is_below rows k)
    ] refl

-- ---- groups and cells

-- the groups at an argument are no more than two and what was counted for the methods
pub groups_few : (rows : List ClassRow) (g : GenericRow) (argument most : ℕ) → ((c : ℕ) → all_differ (λ d e. d == e) (precedence (with_classes rows) c) ≡ true) →
    sum_by (special_at rows argument) g.methods ≤ most → length (groups (with_classes rows) g argument) ≤ most + 2
groups_few rows g argument most once h =
    let P : ProgramRows = with_classes rows in
    let cs : List ℕ = range_with_len 0 (length rows) in
    omega (
      arith,
      special_few P g argument once,
      sum_map (λ (m : MethodRow). slice_index_or m.classes argument 0) (counted_special P cs) g.methods,
      sum_more (λ (m : MethodRow). counted_special P cs (slice_index_or m.classes argument 0)) (special_at rows argument) (λ m. special_is rows (slice_index_or m.classes argument 0)) g.methods,
      h,
    )

-- a generic function has no more cells than its maps, its combinations of groups, and the methods of all chains
pub generic_few : (rows : List ClassRow) (g : GenericRow) (maps tuples_most chains : ℕ) →
    length rows * length (filter (is_specialised g) (range_with_len 0 g.required)) ≤ maps → length (tuples_from (with_classes rows) g 0 g.required) ≤ tuples_most →
    sum_by (λ m. places rows m.classes) g.methods ≤ chains → generic_cells (with_classes rows) g ≤ maps + tuples_most + chains
generic_few rows g maps tuples_most chains m t c =
    let P : ProgramRows = with_classes rows in
    let cs : List ℕ = range_with_len 0 (length rows) in
    let ts : List (List ℕ) = tuples_from P g 0 g.required in
    let counted : List ℕ → ℕ = λ t. sum_by (λ m. one_if (applies P t m.classes)) g.methods in
    let each : sum_by (tuple_cells P g) ts ≤ sum_by (λ t. 1 + counted t) ts = sum_more (tuple_cells P g) (λ t. 1 + counted t) (tuple_few P g) ts in
    let apart : sum_by (λ t. 1 + counted t) ts ≡ sum_by (λ (t : List ℕ). 1) ts + sum_by counted ts = both_sums (λ (t : List ℕ). 1) counted ts in
    let other : sum_by counted ts ≡ sum_by (λ m. sum_by (λ t. one_if (applies P t m.classes)) ts) g.methods =
    turned (λ t (m : MethodRow). one_if (applies P t m.classes)) ts g.methods
    in
    let few : sum_by (λ m. sum_by (λ t. one_if (applies P t m.classes)) ts) g.methods ≤ sum_by (λ m. places_in P cs m.classes) g.methods =
    sum_more (λ (m : MethodRow). sum_by (λ t. one_if (applies P t m.classes)) ts) (λ m. places_in P cs m.classes) (λ m. applied_few P g m.classes 0 g.required) g.methods
    in
    let same : sum_by (λ m. places_in P cs m.classes) g.methods ≡ sum_by (λ m. places rows m.classes) g.methods =
    sum_alike (λ (m : MethodRow). places_in P cs m.classes) (λ m. places rows m.classes) (λ m. places_are rows m.classes) g.methods
    in
    omega (arith, each, apart, ones ts, other, few, same, m, t, c)

-- a generic function more
pub one_generic_more : (t : Tables) (at : ℕ) (g : GenericRow) (most few next : ℕ) → slice_get t.generics at ≡ Some g →
    generic_cells (with_classes t.classes.rows) g ≤ few → next ≡ most + few →
    cells_of t ≤ most + sum_by (generic_cells (with_classes t.classes.rows)) (drop at t.generics) →
    cells_of t ≤ next + sum_by (generic_cells (with_classes t.classes.rows)) (drop (at + 1) t.generics)
one_generic_more t at g most few next there enough same h =
    omega (arith, sum_left (generic_cells (with_classes t.classes.rows)) t.generics at g there, enough, same, h)

-- what holds of a value holds of it with what follows from it
pub some_as : (r : Option ℕ) (P Q : ℕ → Type 0) → ((n : ℕ) → P n → Q n) → IfSome r P → IfSome r Q
some_as None P Q f h = tt
some_as (Some n) P Q f h = f n h
