-- The words of generic functions, by the rows of classes and the words of symbols that are given.
use Rattle.std.specs.Prelude.{ℕ, ◌+◌, ◌*◌, List, ◌++◌, length}
use Rattle.lang_meaning.specs.declared.program.ClassRow.{ClassRow}
use Rattle.lang_meaning.specs.declared.program.GenericRow.{GenericRow}
use Rattle.lang_dispatch.specs.OfClasses.{with_classes}
use Rattle.back_words.specs.Blocks.{blocks, block_addresses}
use Rattle.back_words.specs.Generics.{generic_words}
use Rattle.back_words.specs.Words.{symbol_among}

-- those of one, from an address on
abbrev pub words_of_generic : List ClassRow → (symbols : List ℕ) → GenericRow → (address : ℕ) → List ℕ
words_of_generic classes symbols = generic_words (with_classes classes) (symbol_among symbols)

-- the address of each one's words, from an address on, and behind these addresses the words of each
abbrev pub words_of_generics : List ClassRow → (symbols : List ℕ) → List GenericRow → (address : ℕ) → List ℕ
words_of_generics classes symbols generics address =
    block_addresses (words_of_generic classes symbols) generics (address + 4 * length generics)
    ++ blocks (words_of_generic classes symbols) generics (address + 4 * length generics)
