-- Words that represent a state of the meaning: at the addresses that are lent they are those of an arena that does.
use Rattle.std.specs.Prelude.{◌≡◌, ℕ, ◌/◌, ◌^◌, ◌<◌, List, length, Some, IsSome, slice_get}
use Rattle.base.specs.declared.datum.Symbol.{Symbol}
use Rattle.base.specs.DataMeasures.{SymbolBelow}
use Rattle.lang_meaning.specs.declared.program.ProgramRows.{ProgramRows}
use Rattle.lang_meaning.specs.Values.{SymbolValue, symbol}
use Rattle.lang_meaning.specs.Objects.{fresh_symbol}
use Rattle.lang_meaning.specs.Literals.{symbol_of}
use Rattle.lang_meaning.specs.State as meaning
use Rattle.mid_code.specs.Arena.{word_at}
use Rattle.mid_code.specs.State.{MidState}
use Rattle.mid_arena.specs.Places.{Places, word_of}
use Rattle.mid_arena.specs.Represents.{Represents}
use Rattle.mid_taken.specs.Index.{Index, symbol_at}

-- The symbol that is found at a word is of the table and has this word, and one is found at the word of each symbol that was there before the run.
-- The serials of the symbols that the run made have 29 bits.
pub record Stands (names : List (List ℕ)) (z : meaning.State) (words : List ℕ) (index : Index) : Type 0 where
  pub program : ProgramRows
  pub places : Places
  pub machine : MidState
  pub represents : Represents names program places z machine
  pub same_words : (address word : ℕ) → word_at machine.arena address ≡ Some word → slice_get words (address / 4) ≡ Some word
  pub below : (word : ℕ) (s : Symbol) → symbol_at word index ≡ Some s → SymbolBelow (length names) s
  pub found : (word : ℕ) (s : Symbol) → symbol_at word index ≡ Some s → word_of places (symbol (symbol_of names s)) ≡ Some word
  pub there : (s : SymbolValue) (word : ℕ) → word_of places (symbol s) ≡ Some word → IsSome (symbol_at word index)
  pub serials : (i serial : ℕ) → slice_get z.store i ≡ Some (fresh_symbol serial) → serial < 2 ^ 29
