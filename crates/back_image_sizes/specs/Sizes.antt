-- **How many words are laid beside the code at most**, and how many an image has. This is the one place where these numbers stand.
use Rattle.std.specs.Prelude.{ℕ, ◌+◌, ◌*◌, List, [], ◌∷◌, length, sum_by}
use Rattle.lang_meaning.specs.declared.program.GenericRow.{GenericRow}
use Rattle.lang_meaning.specs.declared.program.ProgramRows.{ProgramRows}
use Rattle.lang_meaning.specs.Cells.{tuple_cells}
use Rattle.lang_meaning.specs.ProgramCounts.{program_nodes}
use Rattle.lang_dispatch.specs.Tables.{tuples_of}
use Rattle.flat_language.specs.declared.program.FlatProgram.{FlatProgram}
use Rattle.flat_language.specs.FlatNodes.{tables}
use Rattle.flat_language.specs.Flatten.{flat_program}
use Rattle.flat_nodes.specs.ProgramNodes.{flat_program_nodes}
use Rattle.mid_start.specs.Rows.{unit_words, most_static_words}
use Rattle.back_code_sizes.specs.Sizes.{words_of_node, words_of_main, words_of_routines, functions_of}
use Rattle.back_words.specs.Generics.{specialised_arguments}
use Rattle.back_words.specs.Start.{wanted_names}
use Rattle.back_words.specs.Uses.{Use, as_global, as_dynamic, as_symbol}
use Rattle.back_words.specs.Variables.{low_words}
use Rattle.back_words.specs.Words.{further_words}

-- a variable has a word, and a symbol that a condition may have so many
abbrev pub use_words : Use → ℕ
use_words (as_global n) = 1
use_words (as_dynamic n) = 1
use_words (as_symbol n) = unit_words

abbrev pub uses_words : List Use → ℕ
uses_words [] = 0
uses_words (u ∷ us) = use_words u + uses_words us

-- the tables of a generic function: for each specialised argument a word for each class, and two more; for each tuple of groups two for each of its cells,
-- which are one and the methods of its chain
abbrev pub table_words : ProgramRows → GenericRow → ℕ
table_words program g =
    (2 + length program.classes) * length (specialised_arguments program g) + 2 * sum_by (tuple_cells program g) (tuples_of program g)

-- its address, how many arguments it takes, its name, and how many are specialised
abbrev pub words_of_generic : ℕ
words_of_generic = 4

-- all words behind the objects: one for each function, and those of generic functions
abbrev pub most_further_words : FlatProgram → ℕ
most_further_words program =
    length (functions_of program)
    + (words_of_generic * length program.generics + sum_by (table_words (tables program)) program.generics)

-- all words that are laid beside the code
abbrev pub most_laid_words : List (List ℕ) → FlatProgram → (symbols : List ℕ) → (address : ℕ) → ℕ
most_laid_words names program symbols address =
    46 + length (low_words names program) + most_static_words program.classes program.functions program.literals
    + unit_words * length (wanted_names names program)
    + length (further_words program symbols address)

-- a class besides its nodes: its name and what stands in front of its precedence list
abbrev pub words_of_class : ℕ
words_of_class = 77

-- what does not depend on the program: routines with their numbers, the fixed words and the control words, t and the streams, the start and the ends
abbrev pub words_of_start : ℕ
words_of_start = words_of_routines + 80 + 46 + 9 + 72 + 11

-- **the words of the image of a flat program**: for each node, for each main form and its number, for each name of a function, for each class, for the tables, and so many more
abbrev pub image_words : FlatProgram → ℕ
image_words program =
    words_of_node * flat_program_nodes program
    + (words_of_main + 1) * length program.main
    + 2 * length program.functions
    + words_of_class * length program.classes
    + sum_by (table_words (tables program)) program.generics
    + words_of_start

-- the same by the rows of a program that is made flat: with its functions inside it it has as many nodes
abbrev pub program_image_words : ProgramRows → ℕ
program_image_words program =
    words_of_node * program_nodes program
    + (words_of_main + 1) * length program.main
    + 2 * length program.functions
    + words_of_class * length program.classes
    + sum_by (table_words (tables (flat_program program))) program.generics
    + words_of_start
