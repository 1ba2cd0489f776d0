-- Maps of arguments, one behind another.
use Rattle.std.proofs.Common.{◌≡◌, ℕ, zero, suc, ◌+◌, ◌-◌, ◌*◌, ◌<◌, ◌≤◌, ◌⊎◌, inl, inr, ⊎_elim, min, List, [], ◌∷◌, ◌++◌, length, map, take, drop, Some, refl, sym, ap, subst, ◌∙◌, append_assoc, append-nil, length-append, arith}
use Rattle.std.specs.Prelude.{slice_get, flat_map}
use Rattle.std.specs.List.{range_with_len}
use Rattle.std.specs.Option.{option_map}
use Rattle.std.proofs.lemmas.Option.{slice_get-map}
use Rattle.std.proofs.lemmas.Grind.{flat_map-append}
use Rattle.std.proofs.lemmas.List.{take_all}
use Rattle.std.proofs.lemmas.List.FromFn.{length-map-range_with_len}
use Rattle.base.specs.AllOf.{all_at}
use Rattle.base.specs.model.DataRest.{rest_at, take_at}
use Rattle.lang_meaning.specs.declared.program.ProgramRows.{ProgramRows}
use Rattle.lang_meaning.specs.declared.program.GenericRow.{GenericRow}
use Rattle.lang_meaning.specs.Cells.{argument_classes, group_of, groups, tuples}
use Rattle.back_relation.specs.Chains.{specialised_words}
use Rattle.back_words.specs.Variables.{number_among}
use Rattle.back_words.specs.Generics.{specialised_arguments, stride, map_word, map_words, specialised_at}
use Rattle.back_laying.specs.declared.groups.GenericGroups.{GenericGroups}
use Rattle.back_laying.specs.declared.groups.SpecialisedArgument.{SpecialisedArgument}
use Rattle.back_laying.specs.Grouped.{arguments_of, IsNumbered, AreGrouped}
use Rattle.back_laying.specs.TooLarge.{SomeOf, IsLarge}
use Rattle.back_laying.proofs.Apart.{numbers_are}
use Rattle.back_laying.proofs.Large.{some_flat}

map_twice : {X Y Z : Type 0} (f : Y → Z) (h : X → Y) (xs : List X) → map f (map h xs) ≡ map (λ x. f (h x)) xs
map_twice f h [] = refl
map_twice f h (x ∷ xs) = ap (λ zs. f (h x) ∷ zs) (map_twice f h xs)

flat_twice : {X Y Z : Type 0} (f : Y → List Z) (h : X → Y) (xs : List X) → flat_map f (map h xs) ≡ flat_map (λ x. f (h x)) xs
flat_twice f h [] = refl
flat_twice f h (x ∷ xs) = ap (λ zs. f (h x) ++ zs) (flat_twice f h xs)

drop_range : (f : ℕ → List ℕ) (n a k : ℕ) → drop k (map f (range_with_len a n)) ≡ map f (range_with_len (a + k) (n - k))
drop_range f n a zero =
    let first : a ≡ a + 0 = omega arith in
    let many : n ≡ n - 0 = omega arith in
    ap (λ b. map f (range_with_len b n)) first ∙ ap (λ m. map f (range_with_len (a + 0) m)) many
drop_range f zero a (suc k) = let none : 0 ≡ 0 - suc k = omega arith in ap (λ m. map f (range_with_len (a + suc k) m)) none
drop_range f (suc n) a (suc k) =
    let first : a + 1 + k ≡ a + suc k = omega arith in
    let many : n - k ≡ suc n - suc k = omega arith in
    drop_range f n (a + 1) k ∙ ap (λ b. map f (range_with_len b (n - k))) first ∙ ap (λ m. map f (range_with_len (a + suc k) m)) many

-- a product with a number that may have stopped at the greatest one is the product, where it fits
either : (a m : ℕ) → (a ≤ m) ⊎ (m ≤ a)
either zero m = inl (omega arith)
either (suc a) zero = inr (omega arith)
either (suc a) (suc m) = ⊎_elim (λ h. let t : suc a ≤ suc m = omega arith in inl t) (λ h. let t : suc m ≤ suc a = omega arith in inr t) (either a m)

pub product_fits : (number count tuples product word : ℕ) → count ≡ min tuples 18446744073709551615 → product ≡ min (number * count) 18446744073709551615
    → word ≡ 0 + 4 * product → word < 4294967296 → word ≡ 4 * (number * tuples)
product_fits zero count tuples product word c p w fits = omega arith
product_fits (suc n) count tuples product word c p w fits = ⊎_elim (λ h. small h) (λ h. large h) (either tuples 18446744073709551615)
  where
    small : tuples ≤ 18446744073709551615 → word ≡ 4 * (suc n * tuples)
    small h =
        let same : count ≡ tuples = omega arith in
        let is : product ≡ min (suc n * tuples) 18446744073709551615 = p ∙ ap (λ t. min (suc n * t) 18446744073709551615) same in
        omega (arith, is, w, fits)

    large : 18446744073709551615 ≤ tuples → word ≡ 4 * (suc n * tuples)
    large h =
        let most : count ≡ 18446744073709551615 = omega arith in
        let is : product ≡ min (suc n * 18446744073709551615) 18446744073709551615 = p ∙ ap (λ t. min (suc n * t) 18446744073709551615) most in
        absurd (omega (arith, is, w, fits))

pub product_large : (number count tuples product : ℕ) → count ≡ min tuples 18446744073709551615 → product ≡ min (number * count) 18446744073709551615
    → 4294967296 ≤ 0 + 4 * product → 2147483648 ≤ 4 * (number * tuples)
product_large zero count tuples product c p large = absurd (omega (arith, p, large))
product_large (suc n) count tuples product c p large = ⊎_elim (λ h. small h) (λ h. most h) (either tuples 18446744073709551615)
  where
    small : tuples ≤ 18446744073709551615 → 2147483648 ≤ 4 * (suc n * tuples)
    small h =
        let same : count ≡ tuples = omega arith in
        let is : product ≡ min (suc n * tuples) 18446744073709551615 = p ∙ ap (λ t. min (suc n * t) 18446744073709551615) same in
        omega (arith, is, large)

    most : 18446744073709551615 ≤ tuples → 2147483648 ≤ 4 * (suc n * tuples)
    most h = omega (arith, h)

module _ (program : ProgramRows) (g : GenericRow) where
  pub stride_is : (firsts : List (List ℕ)) (i : ℕ) → firsts ≡ map (groups program g) (range_with_len 0 g.required)
      → length (tuples (drop (i + 1) firsts)) ≡ stride program g i
  stride_is firsts i e =
      let first : 0 + (i + 1) ≡ i + 1 = omega arith in
      ap (λ ls. length (tuples (drop (i + 1) ls))) e
      ∙ ap (λ ls. length (tuples ls)) (drop_range (groups program g) g.required 0 (i + 1))
      ∙ ap (λ a. length (tuples (map (groups program g) (range_with_len a (g.required - (i + 1)))))) first

  pub map_made : (x : SpecialisedArgument) (many : ℕ) → IsNumbered program g x → many ≡ stride program g x.argument
      → map (λ number. 4 * (number * many)) x.numbers ≡ map_words program g x.argument
  map_made x many h e =
      let group = group_of program (argument_classes g x.argument) in
      ap (λ m. map (λ number. 4 * (number * m)) x.numbers) e
      ∙ ap (map (λ number. 4 * (number * stride program g x.argument))) (numbers_are program g x h)
      ∙ map_twice (λ number. 4 * (number * stride program g x.argument)) (number_among group (groups program g x.argument)) (range_with_len 0 (length program.classes))

  -- one map more
  pub map_more : (found : GenericGroups) (before now next : List ℕ) (i : ℕ) (x : SpecialisedArgument) → AreGrouped program g g.required found
      → slice_get found.specialised i ≡ Some x
      → now ≡ before ++ flat_map (map_words program g) (arguments_of (take i found.specialised))
      → next ≡ now ++ map (λ number. 4 * (number * length (tuples (drop (x.argument + 1) found.firsts)))) x.numbers
      → next ≡ before ++ flat_map (map_words program g) (arguments_of (take (i + 1) found.specialised))
  map_more found before now next i x h here so_far more =
      let numbered : IsNumbered program g x = all_at (IsNumbered program g) found.specialised i x h.numbered here in
      let made = map_made x (length (tuples (drop (x.argument + 1) found.firsts))) numbered (stride_is found.firsts x.argument h.firsts) in
      let f : SpecialisedArgument → List ℕ = λ x. map_words program g x.argument in
      let of : (xs : List SpecialisedArgument) → flat_map (map_words program g) (arguments_of xs) ≡ flat_map f xs = λ xs. flat_twice (map_words program g) (λ (x : SpecialisedArgument). x.argument) xs in
      let done : flat_map f (take (i + 1) found.specialised) ≡ flat_map f (take i found.specialised) ++ f x =
      ap (flat_map f) (take_at found.specialised i x here) ∙ flat_map-append f (take i found.specialised) (x ∷ [])
      ∙ ap (λ l. flat_map f (take i found.specialised) ++ l) (append-nil (f x)) in
      more ∙ ap (λ l. now ++ l) made ∙ ap (λ l. l ++ f x) so_far
      ∙ append_assoc before (flat_map (map_words program g) (arguments_of (take i found.specialised))) (f x)
      ∙ ap (λ l. before ++ (l ++ f x)) (of (take i found.specialised))
      ∙ ap (λ l. before ++ l) (sym done) ∙ ap (λ l. before ++ l) (sym (of (take (i + 1) found.specialised)))

  pub maps_all : (found : GenericGroups) (before now : List ℕ) (i : ℕ) → AreGrouped program g g.required found → length found.specialised ≤ i
      → now ≡ before ++ flat_map (map_words program g) (arguments_of (take i found.specialised))
      → now ≡ before ++ flat_map (map_words program g) (specialised_arguments program g)
  maps_all found before now i h past so_far =
      so_far ∙ ap (λ xs. before ++ flat_map (map_words program g) (arguments_of xs)) (take_all i found.specialised past)
      ∙ ap (λ is. before ++ flat_map (map_words program g) is) h.specialised

  pub maps_many : (is : List ℕ) → length (flat_map (map_words program g) is) ≡ length program.classes * length is
  maps_many [] = omega arith
  maps_many (i ∷ is) =
      let rest = maps_many is in
      let here : length (map_words program g i) ≡ length program.classes = length-map-range_with_len (map_word program g i) 0 (length program.classes) in
      length-append (map_words program g i) (flat_map (map_words program g) is) ∙ ap (λ n. n + length (flat_map (map_words program g) is)) here
      ∙ ap (λ n. length program.classes + n) rest ∙ grind arith

  -- two words more
  pub specialised_more : (xs : List SpecialisedArgument) (now next : List ℕ) (i : ℕ) (x : SpecialisedArgument) (word address after : ℕ) → slice_get xs i ≡ Some x
      → word ≡ 4 * x.argument → next ≡ (now ++ word ∷ []) ++ address ∷ [] → after ≡ address + 4 * length program.classes
      → next ++ specialised_words (specialised_at program g (arguments_of (drop (i + 1) xs)) after)
      ≡ now ++ specialised_words (specialised_at program g (arguments_of (drop i xs)) address)
  specialised_more xs now next i x word address after here number more behind =
      let rest = specialised_words (specialised_at program g (arguments_of (drop (i + 1) xs)) (address + 4 * length program.classes)) in
      ap (λ a. next ++ specialised_words (specialised_at program g (arguments_of (drop (i + 1) xs)) a)) behind
      ∙ ap (λ l. l ++ rest) more
      ∙ append_assoc (now ++ word ∷ []) (address ∷ []) rest
      ∙ append_assoc now (word ∷ []) (address ∷ rest)
      ∙ ap (λ w. now ++ w ∷ address ∷ rest) number
      ∙ ap (λ ys. now ++ specialised_words (specialised_at program g (arguments_of ys) address)) (sym (rest_at xs i x here))

  -- what does not fit
  pub argument_too_large : (xs : List SpecialisedArgument) (i : ℕ) (x : SpecialisedArgument) (address : ℕ) → slice_get xs i ≡ Some x → IsLarge (4 * x.argument)
      → SomeOf IsLarge (specialised_words (specialised_at program g (arguments_of xs) address))
  argument_too_large [] i x address e h = absurd (cc e)
  argument_too_large (y ∷ ys) zero x address e h = let is : y ≡ x = cc e in inl (subst (λ (z : SpecialisedArgument). IsLarge (4 * z.argument)) (sym is) h)
  argument_too_large (y ∷ ys) (suc i) x address e h = inr (inr (argument_too_large ys i x (address + 4 * length program.classes) e h))

  pub map_too_large : (found : GenericGroups) (i : ℕ) (x : SpecialisedArgument) → AreGrouped program g g.required found → slice_get found.specialised i ≡ Some x
      → SomeOf IsLarge (map (λ number. 4 * (number * length (tuples (drop (x.argument + 1) found.firsts)))) x.numbers)
      → SomeOf IsLarge (flat_map (map_words program g) (specialised_arguments program g))
  map_too_large found i x h here large =
      let numbered : IsNumbered program g x = all_at (IsNumbered program g) found.specialised i x h.numbered here in
      let made = map_made x (length (tuples (drop (x.argument + 1) found.firsts))) numbered (stride_is found.firsts x.argument h.firsts) in
      let there : slice_get (arguments_of found.specialised) i ≡ Some x.argument =
      slice_get-map (λ (x : SpecialisedArgument). x.argument) found.specialised i ∙ ap (option_map (λ (x : SpecialisedArgument). x.argument)) here in
      subst (λ is. SomeOf IsLarge (flat_map (map_words program g) is)) h.specialised
      (some_flat IsLarge (map_words program g) (arguments_of found.specialised) i x.argument there (subst (SomeOf IsLarge) made large))
