-- How many words stand behind all objects: those of arities, and of generic functions with their tables.
use Rattle.std.proofs.Common.{◌≡◌, ℕ, zero, suc, ◌+◌, ◌*◌, ◌≤◌, List, [], ◌∷◌, ◌++◌, Option, Some, None, length, map, refl, arith, length-append}
use Rattle.std.specs.Prelude.{sum_by, flat_map}
use Rattle.std.specs.List.{range_with_len}
use Rattle.std.proofs.lemmas.List.{length-map}
use Rattle.std.proofs.lemmas.List.FromFn.{length-range_with_len}
use Rattle.std.proofs.lemmas.List.Sums.{sum_by-cons}
use Rattle.lang_meaning.specs.declared.program.GenericRow.{GenericRow}
use Rattle.lang_meaning.specs.declared.program.ProgramRows.{ProgramRows}
use Rattle.lang_meaning.specs.Cells.{chain_length, tuple_cells}
use Rattle.lang_meaning.specs.Classes.{chain}
use Rattle.lang_meaning.specs.Objects.{Chain}
use Rattle.lang_dispatch.specs.Tables.{tuples_of}
use Rattle.flat_language.specs.FlatNodes.{tables}
use Rattle.back_relation.specs.Chains.{ahead_words, method_words, specialised_words}
use Rattle.back_lowering.specs.ControlWords.{around_method, before_method, after_method, primary_method, chain_end}
use Rattle.back_words.specs.Blocks.{blocks, block_addresses}
use Rattle.back_words.specs.Generics.{specialised_arguments, map_word, map_words, specialised_at, tuple_chains, words_of_chain, all_chain_words, chain_cells, maps_at, chains_at, generic_words}
use Rattle.back_words.specs.Words.{arity_of, arity_words, generic_words_from, symbol_among}
use Rattle.back_image_sizes.specs.Sizes.{table_words}
use Rattle.back_image_sizes.specs.Laws.{LawOfFurtherSizes}

-- chains

ahead_count : (n : ℕ) → length (ahead_words n) ≤ n
ahead_count zero = omega arith
ahead_count (suc n) = omega arith

-- a tuple has a word, and those of its chain
chain_count : (c : Option Chain) → 1 + length (words_of_chain c) ≤ 2 * (1 + chain_length c)
chain_count None = omega arith
chain_count (Some c) =
    let around = method_words around_method c.around in
    let ahead = ahead_words (length c.before + length c.after) in
    let before = method_words before_method c.before in
    let after = method_words after_method c.after in
    let primary = method_words primary_method c.primary in
    omega (
      arith,
      ahead_count (length c.before + length c.after),
      length-append around (ahead ++ (before ++ (after ++ (primary ++ chain_end ∷ [])))),
      length-append ahead (before ++ (after ++ (primary ++ chain_end ∷ []))),
      length-append before (after ++ (primary ++ chain_end ∷ [])),
      length-append after (primary ++ chain_end ∷ []),
      length-append primary (chain_end ∷ []),
      length-map c.around (λ p. 8 * p + around_method),
      length-map c.before (λ p. 8 * p + before_method),
      length-map c.after (λ p. 8 * p + after_method),
      length-map c.primary (λ p. 8 * p + primary_method),
    )

tuples_count :
    (program : ProgramRows) (g : GenericRow) (ts : List (List ℕ))
    → length ts + length (all_chain_words (map (chain program g) ts)) ≤ 2 * sum_by (tuple_cells program g) ts
tuples_count program g [] = omega arith
tuples_count program g (t ∷ ts) =
    omega (
      arith,
      chain_count (chain program g t),
      tuples_count program g ts,
      sum_by-cons (tuple_cells program g) t ts,
      length-append (words_of_chain (chain program g t)) (all_chain_words (map (chain program g) ts)),
    )

cells_count : (cs : List (Option Chain)) (address : ℕ) → length (chain_cells cs address) ≡ length cs
cells_count [] address = refl
cells_count (c ∷ cs) address = let h = cells_count cs (address + 4 * length (words_of_chain c)) in omega (arith, h)

-- specialised arguments

specialised_count : (program : ProgramRows) (g : GenericRow) (is : List ℕ) (address : ℕ) → length (specialised_words (specialised_at program g is address)) ≡ 2 * length is
specialised_count program g [] address = refl
specialised_count program g (i ∷ is) address = let h = specialised_count program g is (address + 4 * length program.classes) in omega (arith, h)

maps_count : (program : ProgramRows) (g : GenericRow) (is : List ℕ) → length (flat_map (map_words program g) is) ≡ length program.classes * length is
maps_count program g [] = omega arith
maps_count program g (i ∷ is) =
    let h = maps_count program g is in
    let one = length-map (range_with_len 0 (length program.classes)) (map_word program g i) in
    let all = length-range_with_len 0 (length program.classes) in
    omega (arith, h, one, all, length-append (map_words program g i) (flat_map (map_words program g) is))

-- the words of a generic function

generic_count :
    (program : ProgramRows) (symbol_of : ℕ → ℕ) (g : GenericRow) (address : ℕ) → length (generic_words program symbol_of g address) ≤ 3 + table_words program g
generic_count program symbol_of g address =
    let is = specialised_arguments program g in
    let arguments = specialised_words (specialised_at program g is (maps_at program symbol_of g address)) in
    let cells = chain_cells (tuple_chains program g) (chains_at program symbol_of g address) in
    let maps = flat_map (map_words program g) is in
    let words = all_chain_words (tuple_chains program g) in
    omega (
      arith,
      length-append arguments (cells ++ (maps ++ words)),
      length-append cells (maps ++ words),
      length-append maps words,
      specialised_count program g is (maps_at program symbol_of g address),
      cells_count (tuple_chains program g) (chains_at program symbol_of g address),
      maps_count program g is,
      length-map (tuples_of program g) (chain program g),
      tuples_count program g (tuples_of program g),
    )

-- blocks behind one another, each of a bounded length wherever it stands
blocks_count :
    {X : Type 0} (words : X → ℕ → List ℕ) (most : X → ℕ) → ((x : X) (address : ℕ) → length (words x address) ≤ 3 + most x)
    → (xs : List X) (address : ℕ) → length (blocks words xs address) ≤ 3 * length xs + sum_by most xs
blocks_count words most h [] address = omega arith
blocks_count words most h (x ∷ xs) address =
    let one = h x address in
    let rest = blocks_count words most h xs (address + 4 * length (words x address)) in
    omega (
      arith,
      one,
      rest,
      sum_by-cons most x xs,
      length-append (words x address) (blocks words xs (address + 4 * length (words x address))),
    )

addresses_count : {X : Type 0} (words : X → ℕ → List ℕ) (xs : List X) (address : ℕ) → length (block_addresses words xs address) ≡ length xs
addresses_count words [] address = refl
addresses_count words (x ∷ xs) address = let h = addresses_count words xs (address + 4 * length (words x address)) in omega (arith, h)

-- **the law of further words**
pub law_of_further_sizes : LawOfFurtherSizes
law_of_further_sizes program symbols address =
    let words = generic_words (tables program) (symbol_among symbols) in
    let from = generic_words_from program address in
    let addresses = block_addresses words program.generics from in
    let each = blocks words program.generics from in
    let count = blocks_count words (table_words (tables program)) (generic_count (tables program) (symbol_among symbols)) program.generics from in
    omega (
      arith,
      length-append (arity_words program) (addresses ++ each),
      length-append addresses each,
      length-append (map arity_of program.procedures) (map arity_of program.lambdas),
      length-map program.procedures arity_of,
      length-map program.lambdas arity_of,
      length-append program.procedures program.lambdas,
      addresses_count words program.generics from,
      count,
    )
