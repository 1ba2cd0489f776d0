-- The words of a generic function say what is asked of them.
use Rattle.std.proofs.Common.{◌≡◌, ℕ, zero, suc, ◌+◌, ◌*◌, ◌<◌, ◌≤◌, Bool, true, false, List, [], ◌∷◌, ◌++◌, length, map, Option, Some, None, refl, sym, ◌∙◌, ap, subst, zero-add, arith}
use Rattle.std.specs.Prelude.{◌==◌, ⊤, not, cond, filter, flat_map, slice_get}
use Rattle.std.specs.List.{range_with_len}
use Rattle.std.specs.Option.{option_map}
use Rattle.std.proofs.lemmas.List.FromFn.{length-range_with_len}
use Rattle.std.proofs.lemmas.Option.{slice_get-map}
use Rattle.base.specs.AllOf.{AllOf}
use Rattle.lang_meaning.specs.declared.program.GenericRow.{GenericRow}
use Rattle.lang_meaning.specs.Cells.{groups}
use Rattle.lang_meaning.specs.Classes.{chain}
use Rattle.lang_meaning.specs.Objects.{Chain}
use Rattle.lang_meaning.specs.Signals.{takes}
use Rattle.lang_dispatch.specs.Tables.{tuples_of}
use Rattle.lang_dispatch.proofs.Alike.{chain_alike}
use Rattle.flat_language.specs.FlatNodes.{tables}
use Rattle.back_lowering.specs.ControlWords.{generic_groups}
use Rattle.back_lowering.specs.Placement.{symbol_word}
use Rattle.back_relation.specs.Setting.{Setting, ConstantAt, ConstantsAt}
use Rattle.back_relation.specs.Chains.{arity_word, chain_words, Specialised, specialised_words, ChainTakes, ChainAt, OffsetIs, ChainFound, GenericAt, InOrder}
use Rattle.back_words.specs.Generics.{specialised_arguments, specialised_at, map_words, tuple_chains, words_of_chain, all_chain_words, chain_cell, chain_cells, cells_at, maps_at, chains_at, generic_words}
use Rattle.back_words.specs.Asked.{RowsAsked}
use Rattle.back_words.proofs.Constants.{split, one_at}
use Rattle.back_words.proofs.Methods.{chain_takes, has_primary}
use Rattle.back_words.proofs.Tuples.{TupleOffset, tuple_offset}

-- ---- counts

filter_few : (p : ℕ → Bool) (xs : List ℕ) → length (filter p xs) ≤ length xs
filter_few p [] = omega arith
filter_few p (x ∷ xs) =
    elim (p x) as (λ b. length (cond b (x ∷ filter p xs) (filter p xs)) ≤ suc (length xs)) [
      | true ↦ omega (arith, filter_few p xs)
      | false ↦ omega (arith, filter_few p xs)
    ]

module _ (setting : Setting) (g : GenericRow) where
  specialised_many : (is : List ℕ) (address : ℕ) → length (specialised_at (tables setting.program) g is address) ≡ length is
  specialised_many [] address = refl
  specialised_many (i ∷ is) address = ap suc (specialised_many is (address + 4 * length setting.program.classes))

  specialised_below : (is : List ℕ) (address : ℕ) → AllOf (λ i. i < g.required) is
      → AllOf (λ (x : Specialised). x.argument < g.required) (specialised_at (tables setting.program) g is address)
  specialised_below [] address h = tt
  specialised_below (i ∷ is) address h = (h.0, specialised_below is (address + 4 * length setting.program.classes) h.1)

range_below : (p : ℕ → Bool) (most m at : ℕ) → at + m ≤ most → AllOf (λ i. i < most) (filter p (range_with_len at m))
range_below p most zero at h = tt
range_below p most (suc m) at h =
    let rest : AllOf (λ i. i < most) (filter p (range_with_len (at + 1) m)) = range_below p most m (at + 1) (omega arith) in
    let here : at < most = omega arith in
    elim (p at) as (λ b. AllOf (λ i. i < most) (cond b (at ∷ filter p (range_with_len (at + 1) m)) (filter p (range_with_len (at + 1) m)))) [ true ↦ (here, rest) | false ↦ rest ]

-- numbers in order, each behind the one before
abbrev NumbersInOrder : ℕ → List ℕ → Type 0
NumbersInOrder n [] = ⊤
NumbersInOrder n (i ∷ is) = (n ≤ i) × NumbersInOrder (i + 1) is

order_from : (m n : ℕ) (is : List ℕ) → m ≤ n → NumbersInOrder n is → NumbersInOrder m is
order_from m n [] less h = tt
order_from m n (i ∷ is) less h = (omega (arith, less, h.0), h.1)

range_in_order : (p : ℕ → Bool) (m at : ℕ) → NumbersInOrder at (filter p (range_with_len at m))
range_in_order p zero at = tt
range_in_order p (suc m) at =
    let rest : NumbersInOrder (at + 1) (filter p (range_with_len (at + 1) m)) = range_in_order p m (at + 1) in
    elim (p at) as (λ b. NumbersInOrder at (cond b (at ∷ filter p (range_with_len (at + 1) m)) (filter p (range_with_len (at + 1) m)))) [
      | true ↦ (omega arith, rest)
      | false ↦ order_from at (at + 1) (filter p (range_with_len (at + 1) m)) (omega arith) rest
    ]

specialised_in_order :
    (setting : Setting) (g : GenericRow) (n : ℕ) (is : List ℕ) (address : ℕ) → NumbersInOrder n is → InOrder n (specialised_at (tables setting.program) g is address)
specialised_in_order setting g n [] address h = tt
specialised_in_order setting g n (i ∷ is) address h = (h.0, specialised_in_order setting g (i + 1) is (address + 4 * length setting.program.classes) h.1)

specialised_words_many : (xs : List Specialised) → length (specialised_words xs) ≡ 2 * length xs
specialised_words_many [] = refl
specialised_words_many (x ∷ xs) = omega (arith, specialised_words_many xs)

cells_many : (cs : List (Option Chain)) (address : ℕ) → length (chain_cells cs address) ≡ length cs
cells_many [] address = refl
cells_many (c ∷ cs) address = ap suc (cells_many cs (address + 4 * length (words_of_chain c)))

-- ---- chains

module _ (setting : Setting) where
  -- the words of a chain, and its cell
  pub record CellAt (cs : List (Option Chain)) (address i : ℕ) (c : Option Chain) : Type 0 where
    pub start : ℕ
    pub cell : slice_get (chain_cells cs address) i ≡ Some (chain_cell c start)
    pub behind : address ≤ start
    pub constants : ConstantsAt setting start (words_of_chain c)

  cell_at : (cs : List (Option Chain)) (address i : ℕ) (c : Option Chain) → ConstantsAt setting address (all_chain_words cs) → slice_get cs i ≡ Some c
      → CellAt cs address i c
  cell_at [] address i c h e = absurd (cc e)
  cell_at (d ∷ ds) address zero c h e =
      let same : d ≡ c = cc e in
      record {
        start = address;
        cell = ap (λ o. Some (chain_cell o address)) same;
        behind = omega arith;
        constants = subst (λ o. ConstantsAt setting address (words_of_chain o)) same (split setting (words_of_chain d) (all_chain_words ds) address h).0;
      }
  cell_at (d ∷ ds) address (suc i) c h e =
      let rest = cell_at ds (address + 4 * length (words_of_chain d)) i c (split setting (words_of_chain d) (all_chain_words ds) address h).1 e in
      record { start = rest.start; cell = rest.cell; behind = omega (arith, rest.behind); constants = rest.constants }

module _
    (setting : Setting) (asked : RowsAsked setting.program) (number : ℕ) (g : GenericRow) (here : slice_get setting.program.generics number ≡ Some g)
    (symbol_of : ℕ → ℕ) (symbol_same : symbol_of g.name.0 ≡ symbol_word setting.at g.name.0) (address : ℕ)
    (constants : ConstantsAt setting address (generic_words (tables setting.program) symbol_of g address))
  where
    abbrev arguments : List ℕ
    arguments = specialised_arguments (tables setting.program) g

    abbrev maps : ℕ
    maps = maps_at (tables setting.program) symbol_of g address

    abbrev chains_from : ℕ
    chains_from = chains_at (tables setting.program) symbol_of g address

    abbrev cells_from : ℕ
    cells_from = cells_at (tables setting.program) symbol_of g address

    abbrev all_chains : List (Option Chain)
    all_chains = tuple_chains (tables setting.program) g

    abbrev specialised : List Specialised
    specialised = specialised_at (tables setting.program) g arguments maps

    abbrev all_maps : List ℕ
    all_maps = flat_map (map_words (tables setting.program) g) arguments

    abbrev header : List ℕ
    header = arity_word g.required g.rest ∷ symbol_of g.name.0 ∷ length arguments ∷ []

    abbrev kept_at : ℕ → Bool
    kept_at i = not (length (groups (tables setting.program) g i) == 1)

    many : length specialised ≡ length arguments
    many = specialised_many setting g arguments maps

    -- the parts, one behind another
    at_header : ConstantsAt setting address header × ConstantsAt setting (address + 4 * 3) (specialised_words specialised ++ (chain_cells all_chains chains_from ++ (all_maps ++ all_chain_words all_chains)))
    at_header = split setting header (specialised_words specialised ++ (chain_cells all_chains chains_from ++ (all_maps ++ all_chain_words all_chains))) address constants

    at_arguments : ConstantsAt setting (address + 4 * 3) (specialised_words specialised)
        × ConstantsAt setting (address + 4 * 3 + 4 * length (specialised_words specialised)) (chain_cells all_chains chains_from ++ (all_maps ++ all_chain_words all_chains))
    at_arguments = split setting (specialised_words specialised) (chain_cells all_chains chains_from ++ (all_maps ++ all_chain_words all_chains)) (address + 4 * 3) at_header.1

    at_cells : ConstantsAt setting cells_from (chain_cells all_chains chains_from)
        × ConstantsAt setting (cells_from + 4 * length (chain_cells all_chains chains_from)) (all_maps ++ all_chain_words all_chains)
    at_cells =
        let place : address + 4 * 3 + 4 * length (specialised_words specialised) ≡ cells_from = omega (arith, specialised_words_many specialised, many) in
        split setting (chain_cells all_chains chains_from) (all_maps ++ all_chain_words all_chains) cells_from
        (subst (λ a. ConstantsAt setting a (chain_cells all_chains chains_from ++ (all_maps ++ all_chain_words all_chains))) place at_arguments.1)

    at_maps : ConstantsAt setting maps all_maps × ConstantsAt setting chains_from (all_chain_words all_chains)
    at_maps =
        let place : cells_from + 4 * length (chain_cells all_chains chains_from) ≡ maps = omega (arith, cells_many all_chains chains_from) in
        split setting all_maps (all_chain_words all_chains) maps (subst (λ a. ConstantsAt setting a (all_maps ++ all_chain_words all_chains)) place at_cells.1)

    -- the chain of a tuple
    chain_found : (classes : List ℕ) (cell : ℕ) (o : Option Chain) → chain (tables setting.program) g classes ≡ o → (start : ℕ)
        → 1 ≤ start → ConstantAt setting cell (chain_cell o start) → ConstantsAt setting start (words_of_chain o) → ChainFound setting g cell o
    chain_found classes cell None e start some word words = word
    chain_found classes cell (Some c) e start some word words = (
      start,
      word,
      record { some = some; no_other = λ none. absurd (has_primary setting asked number g here classes c e none); words = words },
      λ count fits. chain_takes setting asked number g here classes c e count fits,
    )

    pub generic_at : GenericAt setting address g
    generic_at = record {
      specialised = specialised;
      arity = one_at setting header address 0 (arity_word g.required g.rest) at_header.0 refl;
      name =
          subst (λ w. ConstantAt setting (address + 4) w) symbol_same (one_at setting header address 1 (symbol_of g.name.0) at_header.0 refl);
      count = subst (λ w. ConstantAt setting (address + 8) w) (sym many) (one_at setting header address 2 (length arguments) at_header.0 refl);
      arguments = at_arguments.0;
      required = specialised_below setting g arguments maps (range_below (kept_at) g.required g.required 0 (omega arith));
      in_order = specialised_in_order setting g 0 arguments maps (range_in_order kept_at g.required 0);
      few = omega (arith, many, filter_few kept_at (range_with_len 0 g.required), length-range_with_len 0 g.required);
      chains = λ classes arity within.
          let offset : TupleOffset setting g classes arity within arguments maps 0 g.required =
          tuple_offset setting g classes arity within g.required 0 maps (omega arith) at_maps.0 in
          let tuple_chain : slice_get all_chains offset.number ≡ Some (chain (tables setting.program) g offset.tuple) =
          slice_get-map (chain (tables setting.program) g) (tuples_of (tables setting.program) g) offset.number
          ∙ ap (option_map (chain (tables setting.program) g)) offset.there in
          let same : chain (tables setting.program) g offset.tuple ≡ chain (tables setting.program) g classes =
          chain_alike (tables setting.program) g offset.tuple classes offset.alike in
          let cell = cell_at setting all_chains chains_from offset.number (chain (tables setting.program) g classes) at_maps.1 (tuple_chain ∙ ap (λ o. Some o) same) in
          let place : cells_from + 4 * offset.number ≡ address + generic_groups + 8 * length specialised + 4 * offset.number = omega (arith, many) in
          let word = one_at setting (chain_cells all_chains chains_from) cells_from offset.number (chain_cell (chain (tables setting.program) g classes) cell.start) at_cells.0 cell.cell in (
            4 * offset.number,
            offset.offset,
            chain_found classes (address + generic_groups + 8 * length specialised + 4 * offset.number) (chain (tables setting.program) g classes) refl cell.start
                (omega (arith, cell.behind))
                (subst (λ a. ConstantAt setting a (chain_cell (chain (tables setting.program) g classes) cell.start)) place word) cell.constants,
          );
    }
