-- No fewer than the cells of dispatch tables: tuples of groups, and methods that apply to them.
use Rattle.std.proofs.Common.{◌≡◌, ℕ, zero, suc, ◌+◌, ◌-◌, ◌*◌, ◌==◌, ◌<◌, ◌≤◌, Bool, true, false, not, ◌&&◌, ◌||◌, cond, List, [], ◌∷◌, ◌++◌, length, map, filter, Option, Some, None, IfSome, slice_get, drop, if◌then◌else◌, refl, ap, subst, sym, ◌∙◌, ⊎_elim, arith, add-one, length-append}
use Rattle.std.specs.List.{range_with_len, list_any, sum_by, flat_map}
use Rattle.std.specs.Prelude.{slice_index_or}
use Rattle.std.proofs.lemmas.List.{length-map, length-reverse}
use Rattle.std.proofs.lemmas.List.Sums.{sum_by-append, sum_by-cons}
use Rattle.std.proofs.Math.Nat.{mul_assoc, mul_comm, add-mul, mul-le-mul_left, mul-le-mul_right}
use Rattle.lang_meaning.specs.declared.program.ClassRow.{ClassRow}
use Rattle.lang_meaning.specs.declared.program.GenericRow.{GenericRow}
use Rattle.lang_meaning.specs.declared.program.MethodRow.{MethodRow}
use Rattle.lang_meaning.specs.declared.program.ProgramRows.{ProgramRows}
use Rattle.lang_meaning.specs.declared.program.Qualifier.{Qualifier}
use Rattle.lang_meaning.specs.declared.program.Qualifier.TheVariants.{Primary, Around, Before, After}
use Rattle.lang_meaning.specs.Cells.{argument_classes, is_specialised, groups, chain_length, tuple_cells, generic_cells}
use Rattle.lang_meaning.specs.Classes.{applies, more_specific, among, ordered, applicable, is_qualifier, of_kind, chain_of, chain, precedence}
use Rattle.lang_meaning.specs.Lookup.{is_in}
use Rattle.base.specs.Names.{slice_get-push}
use Rattle.base.specs.bridge.Counted.{sum_alike, sum_left, no_sum_left}
use Rattle.base.specs.model.DataRest.{rest_at}
use Rattle.lang_dispatch.specs.OfClasses.{with_classes}
use Rattle.front_cells.specs.Groups.{one_if, below, AreGroupCounts}
use Rattle.front_cells.specs.Tuples.{is_special_at, tuples_from, places, AreTupleCounts, IsScaled, IsScaledBy, AreScaled, AreOnes, chained}
use Rattle.front_cells.specs.declared.bounds.TupleCounts.{TupleCounts}
use Rattle.front_cells.specs.declared.groups.GroupCounts.{GroupCounts}

-- ---- sums

-- one sum is no more than another, item by item
sum_more : {X : Type 0} (f g : X → ℕ) → ((x : X) → f x ≤ g x) → (xs : List X) → sum_by f xs ≤ sum_by g xs
sum_more f g h [] = omega arith
sum_more f g h (x ∷ xs) = omega (arith, sum_by-cons f x xs, sum_by-cons g x xs, h x, sum_more f g h xs)

both_sums : {X : Type 0} (f g : X → ℕ) (xs : List X) → sum_by (λ x. f x + g x) xs ≡ sum_by f xs + sum_by g xs
both_sums f g [] = omega arith
both_sums f g (x ∷ xs) = omega (arith, sum_by-cons (λ x. f x + g x) x xs, sum_by-cons f x xs, sum_by-cons g x xs, both_sums f g xs)

no_sum : {X : Type 0} (xs : List X) → sum_by (λ x. 0) xs ≡ 0
no_sum [] = refl
no_sum (x ∷ xs) = omega (arith, sum_by-cons (λ x. 0) x xs, no_sum xs)

ones : {X : Type 0} (xs : List X) → sum_by (λ x. 1) xs ≡ length xs
ones [] = refl
ones (x ∷ xs) = omega (arith, sum_by-cons (λ x. 1) x xs, ones xs)

-- sums of sums in either order
turned : {X Y : Type 0} (f : X → Y → ℕ) (xs : List X) (ys : List Y) → sum_by (λ x. sum_by (f x) ys) xs ≡ sum_by (λ y. sum_by (λ x. f x y) xs) ys
turned f [] ys = sym (no_sum ys)
turned f (x ∷ xs) ys =
    let step : sum_by (λ y. sum_by (λ x. f x y) (x ∷ xs)) ys ≡ sum_by (f x) ys + sum_by (λ y. sum_by (λ x. f x y) xs) ys =
    sum_alike (λ y. sum_by (λ x. f x y) (x ∷ xs)) (λ y. f x y + sum_by (λ x. f x y) xs) (λ y. sum_by-cons (λ x. f x y) x xs) ys
    ∙ both_sums (f x) (λ y. sum_by (λ x. f x y) xs) ys in
    omega (arith, sum_by-cons (λ x. sum_by (f x) ys) x xs, turned f xs ys, step)

sum_times : {X : Type 0} (f : X → ℕ) (k : ℕ) (xs : List X) → sum_by (λ x. f x * k) xs ≡ sum_by f xs * k
sum_times f k [] = omega arith
sum_times f k (x ∷ xs) =
    omega (arith, sum_by-cons (λ x. f x * k) x xs, sum_times f k xs, ap (λ n. n * k) (sum_by-cons f x xs), add-mul (f x) (sum_by f xs) k)

sum_map : {X Y : Type 0} (f : X → Y) (g : Y → ℕ) (xs : List X) → sum_by g (map f xs) ≡ sum_by (λ x. g (f x)) xs
sum_map f g [] = refl
sum_map f g (x ∷ xs) = omega (arith, sum_by-cons g (f x) (map f xs), sum_by-cons (λ x. g (f x)) x xs, sum_map f g xs)

-- the numbers that are paired with items are no less than what is asked of these
sum_paired : (f : MethodRow → ℕ) (ms : List MethodRow) (ks : List ℕ) → length ks ≡ length ms →
    ((i : ℕ) (m : MethodRow) (k : ℕ) → slice_get ms i ≡ Some m → slice_get ks i ≡ Some k → f m ≤ k) → sum_by f ms ≤ sum_by (λ k. k) ks
sum_paired f [] [] e h = omega arith
sum_paired f [] (k ∷ ks) e h = absurd (omega (arith, e))
sum_paired f (m ∷ ms) [] e h = absurd (omega (arith, e))
sum_paired f (m ∷ ms) (k ∷ ks) e h =
    omega (arith, sum_by-cons f m ms, sum_by-cons (λ k. k) k ks, h 0 m k refl refl, sum_paired f ms ks (omega (arith, e)) (λ i n l a b. h (suc i) n l a b))

-- ---- arguments that are specialised

any_map : {X Y : Type 0} (f : X → Y) (p : Y → Bool) (xs : List X) → list_any p (map f xs) ≡ list_any (λ x. p (f x)) xs
any_map f p [] = refl
any_map f p (x ∷ xs) = ap (λ b. p (f x) || b) (any_map f p xs)

-- an argument more, of those that are specialised
kept_more : (p : ℕ → Bool) (k n : ℕ) (b : Bool) → p k ≡ b → length (filter p (range_with_len k (suc n))) ≡ one_if b + length (filter p (range_with_len (k + 1) n))
kept_more p k n true e = omega (arith, ap (λ v. length (if v then k ∷ filter p (range_with_len (k + 1) n) else filter p (range_with_len (k + 1) n))) e)
kept_more p k n false e = omega (arith, ap (λ v. length (if v then k ∷ filter p (range_with_len (k + 1) n) else filter p (range_with_len (k + 1) n))) e)

pub specialised_more : (g : GenericRow) (k all count next : ℕ) (b : Bool) → k < g.required → b ≡ is_special_at g k → next ≡ count + one_if b →
    all ≤ count + length (filter (is_specialised g) (range_with_len k (g.required - k))) →
    all ≤ next + length (filter (is_specialised g) (range_with_len (k + 1) (g.required - (k + 1))))
specialised_more g k all count next b below_required e n h =
    let left : g.required - k ≡ suc (g.required - (k + 1)) = omega arith in
    let here : is_specialised g k ≡ b = any_map (λ (m : MethodRow). slice_index_or m.classes k 0) (λ c. not (c == 0)) g.methods ∙ sym e in
    omega (
      arith,
      h,
      ap (λ n. length (filter (is_specialised g) (range_with_len k n))) left,
      kept_more (is_specialised g) k (g.required - (k + 1)) b here,
      n,
    )

pub no_specialised_more : (g : GenericRow) (k all count : ℕ) → g.required ≤ k →
    all ≤ count + length (filter (is_specialised g) (range_with_len k (g.required - k))) → all ≤ count
no_specialised_more g k all count past h =
    let left : g.required - k ≡ 0 = omega arith in
    omega (arith, h, ap (λ n. length (filter (is_specialised g) (range_with_len k n))) left)

-- ---- tuples of an argument more

fan_length : (cs : List ℕ) (ts : List (List ℕ)) → length (flat_map (λ c. map (λ tuple. c ∷ tuple) ts) cs) ≡ length cs * length ts
fan_length [] ts = omega arith
fan_length (c ∷ cs) ts =
    omega (
      arith,
      length-append (map (λ tuple. c ∷ tuple) ts) (flat_map (λ c. map (λ tuple. c ∷ tuple) ts) cs),
      length-map ts (λ tuple. c ∷ tuple),
      fan_length cs ts,
    )

one_argument : (rows : List ClassRow) (g : GenericRow) (k n : ℕ) →
    length (tuples_from rows g k (suc n)) ≡ length (groups (with_classes rows) g k) * length (tuples_from rows g (k + 1) n)
one_argument rows g k n = fan_length (groups (with_classes rows) g k) (tuples_from rows g (k + 1) n)

-- a product with the next factor
factor_more : (all most here few rest next : ℕ) → here ≤ few → next ≡ most * few → all ≤ most * (here * rest) → all ≤ next * rest
factor_more all most here few rest next h same e =
    let split : most * (here * rest) ≡ most * here * rest = sym (mul_assoc most here rest) in
    let higher : most * here * rest ≤ most * few * rest = mul-le-mul_right rest (mul-le-mul_left most h) in
    omega (arith, e, split, higher, ap (λ n. n * rest) same)

no_places : (rows : List ClassRow) (g : GenericRow) (k n : ℕ) → places rows g k n [] ≡ 1
no_places rows g k zero = refl
no_places rows g k (suc n) = refl

past : {X : Type 0} (xs : List X) (i : ℕ) → slice_get xs i ≡ None → drop i xs ≡ []
past [] zero h = refl
past [] (suc i) h = refl
past (x ∷ xs) zero h = absurd (cc h)
past (x ∷ xs) (suc i) h = past xs i h

past_more : {X : Type 0} (xs : List X) (i : ℕ) → slice_get xs i ≡ None → slice_get xs (i + 1) ≡ None
past_more [] i h = refl
past_more (x ∷ xs) zero h = absurd (cc h)
past_more (x ∷ xs) (suc i) h = rw (add-one (suc i)) (rw (add-one i) at (past_more xs i h))

place_more : (rows : List ClassRow) (g : GenericRow) (k left all count more : ℕ) (below_classes classes : List ℕ) (class : Option ℕ) →
    ((c n : ℕ) → slice_get below_classes c ≡ Some n → below rows c (groups (with_classes rows) g k) ≤ n) → slice_get classes k ≡ class → IsScaledBy class below_classes count more →
    all ≤ count * places rows g k (suc left) (drop k classes) → all ≤ more * places rows g (k + 1) left (drop (k + 1) classes)
place_more rows g k left all count more bs classes None few at same h =
    let here : places rows g k (suc left) (drop k classes) ≡ 1 = ap (places rows g k (suc left)) (past classes k at) in
    let next : places rows g (k + 1) left (drop (k + 1) classes) ≡ 1 = ap (places rows g (k + 1) left) (past classes (k + 1) (past_more classes k at)) ∙ no_places rows g (k + 1) left in
    omega (arith, h, ap (λ n. count * n) here, ap (λ n. more * n) next, same)
place_more rows g k left all count more bs classes (Some class) few at same h =
    let rest : ℕ = places rows g (k + 1) left (drop (k + 1) classes) in
    let here : places rows g k (suc left) (drop k classes) ≡ below rows class (groups (with_classes rows) g k) * rest = ap (places rows g k (suc left)) (rest_at classes k class at) in
    factor_more all count (below rows class (groups (with_classes rows) g k)) same.0 rest more (few class same.0 same.1.0) same.1.1 (omega (arith, h, ap (λ n. count * n) here))

pub argument_counted : (rows : List ClassRow) (g : GenericRow) (k : ℕ) (counts : TupleCounts) (found : GroupCounts) (next : TupleCounts) → k < g.required →
    AreTupleCounts rows g k counts → AreGroupCounts rows (argument_classes g k) found → next.tuples ≡ counts.tuples * found.groups →
    AreScaled g.methods k found.below counts.applied next.applied → AreTupleCounts rows g (k + 1) next
argument_counted rows g k counts found next there h few tuples_are scaled =
    let left : g.required - k ≡ suc (g.required - (k + 1)) = omega arith in
    record {
      tuples =
          let rest : ℕ = length (tuples_from rows g (k + 1) (g.required - (k + 1))) in
          let here : length (tuples_from rows g k (g.required - k)) ≡ length (groups (with_classes rows) g k) * rest =
          ap (λ n. length (tuples_from rows g k n)) left ∙ one_argument rows g k (g.required - (k + 1)) in
          factor_more (length (tuples_from rows g 0 g.required)) counts.tuples (length (groups (with_classes rows) g k)) found.groups rest next.tuples few.groups tuples_are
          (omega (arith, h.tuples, ap (λ n. counts.tuples * n) here));
      paired = scaled.paired;
      applied = λ i m more a b.
          let from = scaled.each i m more a b in
          place_more rows g k (g.required - (k + 1)) (places rows g 0 g.required m.classes) from.0 more found.below m.classes (slice_get m.classes k) few.below refl from.1.1
          (subst (λ n. places rows g 0 g.required m.classes ≤ from.0 * places rows g k n (drop k m.classes)) left (h.applied i m from.0 a from.1.0));
    }

times_one : (n : ℕ) → n * 1 ≡ n
times_one n = omega arith

one_times : (n : ℕ) → 1 * n ≡ n
one_times n = omega arith

pub no_argument_counted : (rows : List ClassRow) (g : GenericRow) (ones : List ℕ) → AreOnes (length g.methods) ones →
    AreTupleCounts rows g 0 (record { tuples = 1; applied = ones })
no_argument_counted rows g ones h =
    let all : g.required - 0 ≡ g.required = omega arith in
    record {
      tuples = omega (arith, ap (λ n. 1 * length (tuples_from rows g 0 n)) all, one_times (length (tuples_from rows g 0 g.required)));
      paired = h.paired;
      applied = λ i m count a b.
          omega (
            arith,
            ap (λ n. n * places rows g 0 (g.required - 0) m.classes) (h.each i count b),
            ap (λ n. 1 * places rows g 0 n m.classes) all,
            one_times (places rows g 0 g.required m.classes),
          );
    }

pub all_tuples_counted : (rows : List ClassRow) (g : GenericRow) (counts : TupleCounts) → AreTupleCounts rows g g.required counts →
    length (tuples_from rows g 0 g.required) ≤ counts.tuples
all_tuples_counted rows g counts h =
    let none : g.required - g.required ≡ 0 = omega arith in
    let one : length (tuples_from rows g g.required (g.required - g.required)) ≡ 1 = ap (λ n. length (tuples_from rows g g.required n)) none in
    omega (arith, h.tuples, ap (λ n. counts.tuples * n) one, times_one counts.tuples)

-- ---- a chain has no more methods than there are

kind_cons : (q : Qualifier) (m : MethodRow) (ms : List MethodRow) → length (of_kind q (m ∷ ms)) ≡ (if is_qualifier q m.qualifier then 1 else 0) + length (of_kind q ms)
kind_cons q m ms =
    elim (is_qualifier q m.qualifier)
    as (λ b. length (map (λ m. m.procedure) (cond b (m ∷ filter (λ m. is_qualifier q m.qualifier) ms) (filter (λ m. is_qualifier q m.qualifier) ms)))
    ≡ (if b then 1 else 0) + length (of_kind q ms)) [
      | true ↦ let t : length (m.procedure ∷ of_kind q ms) ≡ 1 + length (of_kind q ms) = omega arith in t
      | false ↦ let t : length (of_kind q ms) ≡ 0 + length (of_kind q ms) = omega arith in t
    ]

one_kind : (q : Qualifier) →
    (if is_qualifier Around q then 1 else 0) + (if is_qualifier Before q then 1 else 0) + (if is_qualifier Primary q then 1 else 0)
    + (if is_qualifier After q then 1 else 0) ≡ 1
one_kind Primary = refl
one_kind Around = refl
one_kind Before = refl
one_kind After = refl

all_kinds : (ms : List MethodRow) → length (of_kind Around ms) + length (of_kind Before ms) + length (of_kind Primary ms) + length (of_kind After ms) ≡ length ms
all_kinds [] = refl
all_kinds (m ∷ ms) =
    omega (arith, all_kinds ms, one_kind m.qualifier, kind_cons Around m ms, kind_cons Before m ms, kind_cons Primary m ms, kind_cons After m ms)

chain_few : (ms : List MethodRow) (ps : List ℕ) → of_kind Primary ms ≡ ps → chain_length (chain_of ms ps) ≤ length ms
chain_few ms [] e = omega arith
chain_few ms (p ∷ ps) e = omega (arith, all_kinds ms, ap length e, length-reverse (of_kind After ms))

among_length : (b : MethodRow → MethodRow → Bool) (m : MethodRow) (ms : List MethodRow) → length (among b m ms) ≡ suc (length ms)
among_length b m [] = refl
among_length b m (n ∷ ns) =
    let rest : length (among b m ns) ≡ suc (length ns) = among_length b m ns in
    elim (b m n) as (λ v. length (if v then m ∷ n ∷ ns else n ∷ among b m ns) ≡ suc (suc (length ns))) [ true ↦ refl | false ↦ ap suc rest ]

ordered_length : (b : MethodRow → MethodRow → Bool) (ms : List MethodRow) → length (ordered b ms) ≡ length ms
ordered_length b [] = refl
ordered_length b (m ∷ ms) = among_length b m (ordered b ms) ∙ ap suc (ordered_length b ms)

-- how many items something holds of
held_of : {X : Type 0} (p : X → Bool) (xs : List X) → length (filter p xs) ≡ sum_by (λ x. one_if (p x)) xs
held_of p [] = refl
held_of p (x ∷ xs) = elim (p x) as (λ b. p x ≡ b → length (filter p (x ∷ xs)) ≡ sum_by (λ x. one_if (p x)) (x ∷ xs)) [
  | true ↦ λ e.
      omega (arith, ap (λ v. length (if v then x ∷ filter p xs else filter p xs)) e, sum_by-cons (λ x. one_if (p x)) x xs, ap one_if e, held_of p xs)
  | false ↦ λ e.
      omega (arith, ap (λ v. length (if v then x ∷ filter p xs else filter p xs)) e, sum_by-cons (λ x. one_if (p x)) x xs, ap one_if e, held_of p xs)
] refl

-- the chain of a tuple has no more methods than apply
chain_methods : (P : ProgramRows) (g : GenericRow) (cs : List ℕ) → chain_length (chain P g cs) ≤ sum_by (λ m. one_if (applies P cs m.classes)) g.methods
chain_methods P g cs =
    let fit : List MethodRow = filter (λ m. applies P cs m.classes) g.methods in
    omega (
      arith,
      chain_few (applicable P cs g.methods) (of_kind Primary (applicable P cs g.methods)) refl,
      ordered_length (λ m n. more_specific P cs m.classes n.classes) fit,
      held_of (λ (m : MethodRow). applies P cs m.classes) g.methods,
    )

-- ---- a method applies to no more tuples than there are of groups below its classes

-- a sum over combinations is one over their first parts, of sums over the others
fan_front : (f : List ℕ → ℕ) (c : ℕ) (ts : List (List ℕ)) → sum_by f (map (λ tuple. c ∷ tuple) ts) ≡ sum_by (λ t. f (c ∷ t)) ts
fan_front f c ts = sum_map (λ tuple. c ∷ tuple) f ts

fan_sum : (f : List ℕ → ℕ) (cs : List ℕ) (ts : List (List ℕ)) → sum_by f (flat_map (λ c. map (λ tuple. c ∷ tuple) ts) cs) ≡ sum_by (λ c. sum_by (λ t. f (c ∷ t)) ts) cs
fan_sum f [] ts = refl
fan_sum f (c ∷ cs) ts =
    omega (
      arith,
      sum_by-append f (map (λ tuple. c ∷ tuple) ts) (flat_map (λ c. map (λ tuple. c ∷ tuple) ts) cs),
      fan_front f c ts,
      fan_sum f cs ts,
      sum_by-cons (λ c. sum_by (λ t. f (c ∷ t)) ts) c cs,
    )

both_one : (a b : Bool) → one_if (a && b) ≡ one_if a * one_if b
both_one true b = omega arith
both_one false b = omega arith

applied_few : (rows : List ClassRow) (g : GenericRow) (ms : List ℕ) (k n : ℕ) →
    sum_by (λ t. one_if (applies (with_classes rows) t ms)) (tuples_from rows g k n) ≤ places rows g k n ms
unfolding below
applied_few rows g [] k zero = omega arith
applied_few rows g (m ∷ ms) k zero = omega arith
applied_few rows g [] k (suc n) =
    let P : ProgramRows = with_classes rows in
    let ts : List (List ℕ) = tuples_from rows g (k + 1) n in
    omega (
      arith,
      fan_sum (λ t. one_if (applies P t [])) (groups P g k) ts,
      sum_alike (λ (c : ℕ). sum_by (λ (t : List ℕ). 0) ts) (λ c. 0) (λ c. no_sum ts) (groups P g k),
      no_sum (groups P g k),
    )
applied_few rows g (m ∷ ms) k (suc n) =
    let P : ProgramRows = with_classes rows in
    let ts : List (List ℕ) = tuples_from rows g (k + 1) n in
    let rest : ℕ = sum_by (λ t. one_if (applies P t ms)) ts in
    let here : ℕ → ℕ = λ c. one_if (is_in m (precedence P c)) in
    let one : (c : ℕ) → sum_by (λ t. one_if (applies P (c ∷ t) (m ∷ ms))) ts ≡ here c * rest =
    λ c.
    sum_alike (λ t. one_if (applies P (c ∷ t) (m ∷ ms))) (λ t. one_if (applies P t ms) * here c)
    (λ t. both_one (is_in m (precedence P c)) (applies P t ms) ∙ mul_comm (here c) (one_if (applies P t ms))) ts
    ∙ (sum_times (λ t. one_if (applies P t ms)) (here c) ts ∙ mul_comm rest (here c))
    in
    let all : sum_by (λ t. one_if (applies P t (m ∷ ms))) (tuples_from rows g k (suc n)) ≡ sum_by here (groups P g k) * rest =
    fan_sum (λ t. one_if (applies P t (m ∷ ms))) (groups P g k) ts
    ∙ (sum_alike (λ c. sum_by (λ t. one_if (applies P (c ∷ t) (m ∷ ms))) ts) (λ c. here c * rest) one (groups P g k)
    ∙ sum_times here rest (groups P g k))
    in
    omega (arith, all, mul-le-mul_left (sum_by here (groups P g k)) (applied_few rows g ms (k + 1) n))

pub chains_counted : (rows : List ClassRow) (g : GenericRow) (counts : TupleCounts) → AreTupleCounts rows g g.required counts →
    chained rows g ≤ sum_by (λ count. count) counts.applied
chains_counted rows g counts h =
    let P : ProgramRows = with_classes rows in
    let ts : List (List ℕ) = tuples_from rows g 0 g.required in
    let none : g.required - g.required ≡ 0 = omega arith in
    let each : sum_by (λ t. chain_length (chain P g t)) ts ≤ sum_by (λ t. sum_by (λ m. one_if (applies P t m.classes)) g.methods) ts =
    sum_more (λ t. chain_length (chain P g t)) (λ t. sum_by (λ m. one_if (applies P t m.classes)) g.methods) (chain_methods P g) ts in
    let other : sum_by (λ t. sum_by (λ m. one_if (applies P t m.classes)) g.methods) ts ≡ sum_by (λ m. sum_by (λ t. one_if (applies P t m.classes)) ts) g.methods =
    turned (λ t (m : MethodRow). one_if (applies P t m.classes)) ts g.methods in
    let few : sum_by (λ m. sum_by (λ t. one_if (applies P t m.classes)) ts) g.methods ≤ sum_by (λ m. places rows g 0 g.required m.classes) g.methods =
    sum_more (λ (m : MethodRow). sum_by (λ t. one_if (applies P t m.classes)) ts) (λ m. places rows g 0 g.required m.classes) (λ m. applied_few rows g m.classes 0 g.required) g.methods in
    let paired : sum_by (λ m. places rows g 0 g.required m.classes) g.methods ≤ sum_by (λ count. count) counts.applied =
    sum_paired (λ m. places rows g 0 g.required m.classes) g.methods counts.applied h.paired
    (λ i m count a b.
    let last : places rows g g.required (g.required - g.required) (drop g.required m.classes) ≡ 1 = ap (λ n. places rows g g.required n (drop g.required m.classes)) none in
    omega (arith, h.applied i m count a b, ap (λ n. count * n) last, times_one count)) in
    omega (arith, each, other, few, paired)

-- ---- without a primary method there is no chain

or_none : (a b : Bool) → a ≡ false → b ≡ false → (a || b) ≡ false
or_none true b h k = h
or_none false b h k = k

first_none : (a b : Bool) → (a || b) ≡ false → a ≡ false
first_none true b h = h
first_none false b h = refl

others_none : (a b : Bool) → (a || b) ≡ false → b ≡ false
others_none true b h = absurd (cc h)
others_none false b h = h

none_kept_or_not : (p : MethodRow → Bool) (m : MethodRow) (ms : List MethodRow) (b : Bool) → p m ≡ false → list_any p ms ≡ false →
    list_any p (if b then m ∷ ms else ms) ≡ false
none_kept_or_not p m ms true h k = or_none (p m) (list_any p ms) h k
none_kept_or_not p m ms false h k = k

none_filtered : (p q : MethodRow → Bool) (ms : List MethodRow) → list_any p ms ≡ false → list_any p (filter q ms) ≡ false
none_filtered p q [] h = refl
none_filtered p q (m ∷ ms) h =
    none_kept_or_not p m (filter q ms) (q m) (first_none (p m) (list_any p ms) h) (none_filtered p q ms (others_none (p m) (list_any p ms) h))

none_in_either : (p : MethodRow → Bool) (ms ns : List MethodRow) (b : Bool) → list_any p ms ≡ false → list_any p ns ≡ false → list_any p (if b then ms else ns) ≡ false
none_in_either p ms ns true h k = h
none_in_either p ms ns false h k = k

none_among : (p : MethodRow → Bool) (b : MethodRow → MethodRow → Bool) (m : MethodRow) (ms : List MethodRow) → p m ≡ false → list_any p ms ≡ false → list_any p (among b m ms) ≡ false
none_among p b m [] h k = or_none (p m) false h refl
none_among p b m (n ∷ ns) h k =
    none_in_either p (m ∷ n ∷ ns) (n ∷ among b m ns) (b m n) (or_none (p m) (list_any p (n ∷ ns)) h k)
    (or_none (p n) (list_any p (among b m ns)) (first_none (p n) (list_any p ns) k) (none_among p b m ns h (others_none (p n) (list_any p ns) k)))

none_ordered : (p : MethodRow → Bool) (b : MethodRow → MethodRow → Bool) (ms : List MethodRow) → list_any p ms ≡ false → list_any p (ordered b ms) ≡ false
none_ordered p b [] h = refl
none_ordered p b (m ∷ ms) h = none_among p b m (ordered b ms) (first_none (p m) (list_any p ms) h) (none_ordered p b ms (others_none (p m) (list_any p ms) h))

none_left : (p : MethodRow → Bool) (ms : List MethodRow) → list_any p ms ≡ false → filter p ms ≡ []
none_left p [] h = refl
none_left p (m ∷ ms) h = ap (λ b. if b then m ∷ filter p ms else filter p ms) (first_none (p m) (list_any p ms) h) ∙ none_left p ms (others_none (p m) (list_any p ms) h)

no_chain : (P : ProgramRows) (g : GenericRow) → list_any (λ m. is_qualifier Primary m.qualifier) g.methods ≡ false → (cs : List ℕ) → chain_length (chain P g cs) ≡ 0
no_chain P g h cs =
    let primary : MethodRow → Bool = λ m. is_qualifier Primary m.qualifier in
    let fit : List MethodRow = filter (λ m. applies P cs m.classes) g.methods in
    let none : list_any primary (applicable P cs g.methods) ≡ false =
    none_ordered primary (λ m n. more_specific P cs m.classes n.classes) fit (none_filtered primary (λ m. applies P cs m.classes) g.methods h) in
    ap (λ ms. chain_length (chain_of (applicable P cs g.methods) (map (λ m. m.procedure) ms))) (none_left primary (applicable P cs g.methods) none)

pub no_chains : (rows : List ClassRow) (g : GenericRow) → list_any (λ m. is_qualifier Primary m.qualifier) g.methods ≡ false → chained rows g ≡ 0
no_chains rows g h =
    let ts : List (List ℕ) = tuples_from rows g 0 g.required in
    sum_alike (λ t. chain_length (chain (with_classes rows) g t)) (λ t. 0) (no_chain (with_classes rows) g h) ts ∙ no_sum ts

-- a generic function has no more cells than its maps, its tuples, and the methods of all chains
pub generic_few : (rows : List ClassRow) (g : GenericRow) (maps all chains : ℕ) →
    length rows * length (filter (is_specialised g) (range_with_len 0 g.required)) ≤ maps → length (tuples_from rows g 0 g.required) ≤ all →
    chained rows g ≤ chains → generic_cells (with_classes rows) g ≤ maps + all + chains
generic_few rows g maps all chains m t c =
    let ts : List (List ℕ) = tuples_from rows g 0 g.required in
    let apart : sum_by (tuple_cells (with_classes rows) g) ts ≡ sum_by (λ (t : List ℕ). 1) ts + chained rows g =
    both_sums (λ (t : List ℕ). 1) (λ t. chain_length (chain (with_classes rows) g t)) ts in
    omega (arith, apart, ones ts, m, t, c)

-- what holds of a value holds of it with what follows from it
pub some_as : (r : Option ℕ) (P Q : ℕ → Type 0) → ((n : ℕ) → P n → Q n) → IfSome r P → IfSome r Q
some_as None P Q f h = tt
some_as (Some n) P Q f h = f n h

-- ---- methods one after another

pub record AreScaledTo (at : ℕ) (ms : List MethodRow) (argument : ℕ) (bs counts mores : List ℕ) : Type 0 where
  pub paired : length mores ≡ at
  pub each : (i : ℕ) (m : MethodRow) (more : ℕ) → slice_get ms i ≡ Some m → slice_get mores i ≡ Some more →
      (count : ℕ) × ((slice_get counts i ≡ Some count) × IsScaled m.classes argument bs count more)

pub none_scaled : (ms : List MethodRow) (argument : ℕ) (bs counts : List ℕ) → AreScaledTo 0 ms argument bs counts []
none_scaled ms argument bs counts = record { paired = refl; each = λ i m more a b. absurd (cc b) }

same_method : (ms : List MethodRow) (i j : ℕ) (m n : MethodRow) → slice_get ms i ≡ Some m → slice_get ms j ≡ Some n → i ≡ j → m ≡ n
same_method ms i j m n a b e = let same : Some m ≡ Some n = sym a ∙ (ap (slice_get ms) e ∙ b) in cc

pub one_scaled : (at : ℕ) (ms : List MethodRow) (argument : ℕ) (bs counts mores : List ℕ) (m : MethodRow) (count next : ℕ) → slice_get ms at ≡ Some m →
    slice_get counts at ≡ Some count → IsScaled m.classes argument bs count next → AreScaledTo at ms argument bs counts mores →
    AreScaledTo (at + 1) ms argument bs counts (mores ++ next ∷ [])
one_scaled at ms argument bs counts mores m count next there counted scaled h = record {
  paired = omega (arith, length-append mores (next ∷ []), h.paired);
  each = λ i n more a b.
      ⊎_elim
      (λ old. h.each i n more a old)
      (λ (p : (i ≡ length mores) × (next ≡ more)).
      let place : at ≡ i = sym (p.0 ∙ h.paired) in
      let same : m ≡ n = same_method ms at i m n there a place in
      let here : IsScaled n.classes argument bs count more = subst (λ (n : MethodRow). IsScaled n.classes argument bs count more) same (subst (λ (x : ℕ). IsScaled m.classes argument bs count x) p.1 scaled) in
      (count, (ap (slice_get counts) (sym place) ∙ counted, here)))
      (slice_get-push mores next i more b);
}

pub all_scaled : (at : ℕ) (ms : List MethodRow) (argument : ℕ) (bs counts mores : List ℕ) → length ms ≤ at → at ≤ length ms →
    AreScaledTo at ms argument bs counts mores → AreScaled ms argument bs counts mores
all_scaled at ms argument bs counts mores past within h = record { paired = omega (arith, h.paired); each = h.each }

pub no_ones : AreOnes 0 []
no_ones = record { paired = refl; each = λ i one h. absurd (cc h) }

pub ones_more : (at : ℕ) (ones : List ℕ) → AreOnes at ones → AreOnes (at + 1) (ones ++ 1 ∷ [])
ones_more at ones h = record {
  paired = omega (arith, length-append ones (1 ∷ []), h.paired);
  each = λ i one e. ⊎_elim (λ old. h.each i one old) (λ (p : (i ≡ length ones) × (1 ≡ one)). sym p.1) (slice_get-push ones 1 i one e);
}

-- numbers added one after another

pub none_added : (ks : List ℕ) → sum_by (λ k. k) ks ≤ 0 + sum_by (λ k. k) (drop 0 ks)
none_added ks = omega arith

pub one_added : (ks : List ℕ) (i k sum next all : ℕ) → slice_get ks i ≡ Some k → next ≡ sum + k → all ≤ sum + sum_by (λ k. k) (drop i ks) → all ≤ next + sum_by (λ k. k) (drop (i + 1) ks)
one_added ks i k sum next all there same h = omega (arith, h, same, sum_left (λ k. k) ks i k there)

pub all_added : (ks : List ℕ) (i sum all : ℕ) → length ks ≤ i → all ≤ sum + sum_by (λ k. k) (drop i ks) → all ≤ sum
all_added ks i sum all past h = omega (arith, h, no_sum_left (λ k. k) ks i past)
