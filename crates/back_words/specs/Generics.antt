-- **The words of a generic function**: how many arguments it takes, its name, which arguments are specialised, a word for each tuple of groups of
-- classes, for each specialised argument a word for each class, and the chains.
use Rattle.std.specs.Prelude.{ℕ, ◌+◌, ◌-◌, ◌*◌, ◌==◌, not, List, [], ◌∷◌, ◌++◌, length, map, filter, flat_map, Option, Some, None}
use Rattle.std.specs.List.{range_with_len}
use Rattle.lang_meaning.specs.declared.program.ProgramRows.{ProgramRows}
use Rattle.lang_meaning.specs.declared.program.GenericRow.{GenericRow}
use Rattle.lang_meaning.specs.Cells.{argument_classes, group_of, groups}
use Rattle.lang_meaning.specs.Classes.{chain}
use Rattle.lang_meaning.specs.Objects.{Chain}
use Rattle.lang_dispatch.specs.Tables.{tuples_from, tuples_of}
use Rattle.back_lowering.specs.ControlWords.{generic_groups}
use Rattle.back_relation.specs.Chains.{arity_word, chain_words, Specialised, specialised_words}
use Rattle.back_words.specs.Variables.{number_among}

module _ (program : ProgramRows) (g : GenericRow) where
  -- the arguments at which there is more than one group of classes
  abbrev pub specialised_arguments : List ℕ
  specialised_arguments = filter (λ i. not (length (groups program g i) == 1)) (range_with_len 0 g.required)

  -- how many tuples have the same groups up to an argument
  abbrev pub stride : ℕ → ℕ
  stride i = length (tuples_from program g (i + 1) (g.required - (i + 1)))

  -- the map of an argument: for each class the bytes to the words of the tuples that have its group there
  abbrev pub map_word : ℕ → ℕ → ℕ
  map_word i class = 4 * (number_among (group_of program (argument_classes g i)) (groups program g i) class * stride i)

  abbrev pub map_words : ℕ → List ℕ
  map_words i = map (map_word i) (range_with_len 0 (length program.classes))

  -- arguments with their maps, which stand behind one another from an address on
  abbrev pub specialised_at : List ℕ → ℕ → List Specialised
  specialised_at [] address = []
  specialised_at (i ∷ is) address =
      record { argument = i; map_address = address } ∷ specialised_at is (address + 4 * length program.classes)

  -- the chain of each tuple
  abbrev pub tuple_chains : List (Option Chain)
  tuple_chains = map (chain program g) (tuples_of program g)

-- the words of chains behind one another from an address on, and for each the address where it stands, or 0 where there is none
abbrev pub words_of_chain : Option Chain → List ℕ
words_of_chain None = []
words_of_chain (Some c) = chain_words c

abbrev pub all_chain_words : List (Option Chain) → List ℕ
all_chain_words cs = flat_map words_of_chain cs

abbrev pub chain_cell : Option Chain → ℕ → ℕ
chain_cell None address = 0
chain_cell (Some c) address = address

abbrev pub chain_cells : List (Option Chain) → ℕ → List ℕ
chain_cells [] address = []
chain_cells (c ∷ cs) address = chain_cell c address ∷ chain_cells cs (address + 4 * length (words_of_chain c))

-- the words from an address on, where the symbols of names have these words
module _ (program : ProgramRows) (symbol_of : ℕ → ℕ) where
  -- where the cells, the maps and the chains begin
  abbrev pub cells_at : GenericRow → ℕ → ℕ
  cells_at g address = address + generic_groups + 8 * length (specialised_arguments program g)

  abbrev pub maps_at : GenericRow → ℕ → ℕ
  maps_at g address = cells_at g address + 4 * length (tuple_chains program g)

  abbrev pub chains_at : GenericRow → ℕ → ℕ
  chains_at g address = maps_at g address + 4 * length (flat_map (map_words program g) (specialised_arguments program g))

  abbrev pub generic_words : GenericRow → ℕ → List ℕ
  generic_words g address =
      (arity_word g.required g.rest ∷ symbol_of g.name.0 ∷ length (specialised_arguments program g) ∷ [])
      ++ (specialised_words (specialised_at program g (specialised_arguments program g) (maps_at g address))
      ++ (chain_cells (tuple_chains program g) (chains_at g address)
      ++ (flat_map (map_words program g) (specialised_arguments program g) ++ all_chain_words (tuple_chains program g))))
