-- The words of the maps come to the number of a tuple whose groups are those of the classes.
use Rattle.std.proofs.Common.{◌≡◌, ℕ, zero, suc, ◌+◌, ◌-◌, ◌*◌, ◌==◌, ◌<◌, ◌≤◌, Bool, true, false, List, [], ◌∷◌, ◌++◌, length, map, drop, Some, refl, sym, ◌∙◌, ap, subst, arith}
use Rattle.std.specs.Prelude.{not, cond, filter, flat_map, slice_get}
use Rattle.std.specs.List.{range_with_len}
use Rattle.std.proofs.lemmas.Bool.Decides.{nat_tests}
use Rattle.std.proofs.lemmas.Option.{slice_get_within, slice_get-map}
use Rattle.std.specs.Option.{option_map}
use Rattle.std.proofs.lemmas.List.{drop_all}
use Rattle.std.proofs.lemmas.List.FromFn.{length-map-range_with_len}
use Rattle.base.specs.AllOf.{AllOf, all_at}
use Rattle.base.specs.model.DataRest.{rest_at}
use Rattle.lang_meaning.specs.declared.program.GenericRow.{GenericRow}
use Rattle.lang_meaning.specs.declared.program.ProgramRows.{ProgramRows}
use Rattle.lang_meaning.specs.Cells.{argument_classes, group_of, groups}
use Rattle.lang_dispatch.specs.Alike.{AreAlike, columns_from}
use Rattle.lang_dispatch.specs.Tables.{tuples_from}
use Rattle.lang_dispatch.proofs.TuplePlaces.{tuple_at}
use Rattle.flat_language.specs.FlatNodes.{tables}
use Rattle.mid_arena.proofs.Arguments.{item_there}
use Rattle.back_relation.specs.Setting.{Setting, ConstantAt, ConstantsAt}
use Rattle.back_relation.specs.Chains.{OffsetIs}
use Rattle.back_words.specs.Variables.{number_among}
use Rattle.back_words.specs.Generics.{stride, map_word, map_words, specialised_at}
use Rattle.back_words.proofs.Firsts.{Found, one_found, in_range}
use Rattle.back_words.proofs.Constants.{split, one_at}

module _ (setting : Setting) (g : GenericRow) (cs : List ℕ) (arity : length cs ≡ g.required) (within : AllOf (λ c. c < length setting.program.classes) cs) where
  abbrev rows : ProgramRows
  rows = tables setting.program

  abbrev kept : ℕ → Bool
  kept i = not (length (groups rows g i) == 1)

  -- the maps of these arguments come to the number of a tuple of the arguments from one on
  pub record TupleOffset (arguments : List ℕ) (address at m : ℕ) : Type 0 where
    pub number : ℕ
    pub offset : OffsetIs setting (specialised_at rows g arguments address) cs (4 * number)
    pub tuple : List ℕ
    pub there : slice_get (tuples_from rows g at m) number ≡ Some tuple
    pub alike : AreAlike rows (columns_from g at m) tuple (drop at cs)

  -- the group of an argument's class
  pub record ArgumentGroup (at : ℕ) : Type 0 where
    pub class : ℕ
    pub there : slice_get cs at ≡ Some class
    pub below : class < length setting.program.classes
    pub found : Found (group_of rows (argument_classes g at)) (groups rows g at) class

  argument_group : (at : ℕ) → at < g.required → ArgumentGroup at
  argument_group at h =
      let item : (c : ℕ) × (slice_get cs at ≡ Some c) = item_there cs at (omega (arith, arity)) in
      let below : item.0 < length setting.program.classes = all_at (λ c. c < length setting.program.classes) cs at item.0 within item.1 in
      record {
        class = item.0;
        there = item.1;
        below = below;
        found =
            one_found (group_of rows (argument_classes g at)) (range_with_len 0 (length setting.program.classes)) item.0 item.0
            (in_range (length setting.program.classes) item.0 below);
      }

  map_found : (at class : ℕ) → class < length setting.program.classes → slice_get (map_words rows g at) class ≡ Some (map_word rows g at class)
  map_found at class h =
      slice_get-map (map_word rows g at) (range_with_len 0 (length setting.program.classes)) class
      ∙ ap (option_map (map_word rows g at)) (in_range (length setting.program.classes) class h)

  pub tuple_offset : (m at address : ℕ) → at + m ≡ g.required
      → ConstantsAt setting address (flat_map (map_words rows g) (filter kept (range_with_len at m)))
      → TupleOffset (filter kept (range_with_len at m)) address at m
  tuple_offset zero at address e h =
      let none : drop at cs ≡ [] = drop_all at cs (omega (arith, arity)) in
      record { number = 0; offset = refl; tuple = []; there = refl; alike = rw none tt }
  tuple_offset (suc m) at address e h =
      by (kept at) refl h
      (λ next constants. tuple_offset m (at + 1) next (let left : at + 1 + m ≡ g.required = omega arith in left) constants)
    where
      others : List ℕ
      others = filter kept (range_with_len (at + 1) m)

      here : ArgumentGroup at
      here = argument_group at (omega arith)

      k : ℕ
      k = number_among (group_of rows (argument_classes g at)) (groups rows g at) here.class

      rest_count : ℕ
      rest_count = length (tuples_from rows g (at + 1) m)

      tuple_there : (number : ℕ) (tuple : List ℕ) → slice_get (tuples_from rows g (at + 1) m) number ≡ Some tuple
          → slice_get (tuples_from rows g at (suc m)) (k * rest_count + number) ≡ Some (here.found.first ∷ tuple)
      tuple_there number tuple there =
          tuple_at (groups rows g at) (map (groups rows g) (range_with_len (at + 1) m)) k number here.found.first tuple here.found.there there

      alike_there : (tuple : List ℕ) → AreAlike rows (columns_from g (at + 1) m) tuple (drop (at + 1) cs)
          → AreAlike rows (columns_from g at (suc m)) (here.found.first ∷ tuple) (drop at cs)
      alike_there tuple alike = rw (rest_at cs at here.class here.there) (here.found.same, alike)

      by : (b : Bool) → kept at ≡ b → ConstantsAt setting address (flat_map (map_words rows g) (cond b (at ∷ others) others))
          → ((next : ℕ) → ConstantsAt setting next (flat_map (map_words rows g) others) → TupleOffset others next (at + 1) m)
          → TupleOffset (cond b (at ∷ others) others) address at (suc m)
      by true test constants more =
          let parts = split setting (map_words rows g at) (flat_map (map_words rows g) others) address constants in
          let size : address + 4 * length (map_words rows g at) ≡ address + 4 * length setting.program.classes =
          omega (arith, length-map-range_with_len (map_word rows g at) 0 (length setting.program.classes)) in
          let behind : ConstantsAt setting (address + 4 * length setting.program.classes) (flat_map (map_words rows g) others) =
          subst (λ a. ConstantsAt setting a (flat_map (map_words rows g) others)) size parts.1 in
          let rest = more (address + 4 * length setting.program.classes) behind in
          let left : g.required - (at + 1) ≡ m = omega arith in
          let same_stride : stride rows g at ≡ rest_count = ap (λ n. length (tuples_from rows g (at + 1) n)) left in
          let word : map_word rows g at here.class ≡ 4 * (k * rest_count) = ap (λ n. 4 * (k * n)) same_stride in
          let sum : 4 * (k * rest_count + rest.number) ≡ map_word rows g at here.class + 4 * rest.number = omega (arith, word) in
          record {
            number = k * rest_count + rest.number;
            offset = (
              here.class,
              map_word rows g at here.class,
              4 * rest.number,
              here.there,
              one_at setting (map_words rows g at) address here.class (map_word rows g at here.class) parts.0 (map_found at here.class here.below),
              rest.offset,
              sum,
            );
            tuple = here.found.first ∷ rest.tuple;
            there = tuple_there rest.number rest.tuple rest.there;
            alike = alike_there rest.tuple rest.alike;
          }
      by false test constants more =
          let one : length (groups rows g at) ≡ 1 = grind (arith, nat_tests) in
          let first : k ≡ 0 = omega (arith, slice_get_within (groups rows g at) k here.found.first here.found.there, one) in
          let rest = more address constants in
          let none : k * rest_count ≡ 0 = ap (λ n. n * rest_count) first ∙ omega arith in
          let number : rest.number ≡ k * rest_count + rest.number = omega (arith, none) in
          record {
            number = k * rest_count + rest.number;
            offset = subst (λ n. OffsetIs setting (specialised_at rows g others address) cs (4 * n)) number rest.offset;
            tuple = here.found.first ∷ rest.tuple;
            there = tuple_there rest.number rest.tuple rest.there;
            alike = alike_there rest.tuple rest.alike;
          }
