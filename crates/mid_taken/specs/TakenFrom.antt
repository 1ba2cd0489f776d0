-- The datum of a value that stands in the words of memory, by the word of the value.
use Rattle.std.specs.Prelude.{◌≡◌, ℕ, ◌/◌, ◌^◌, ◌<◌, List, Some, slice_get}
use Rattle.base.specs.declared.place.Place.{Place}
use Rattle.base.specs.declared.reason.Reason.{Reason}
use Rattle.base.specs.Data.{Item}
use Rattle.lang_meaning.specs.declared.program.ProgramRows.{ProgramRows}
use Rattle.lang_meaning.specs.Values.{Value}
use Rattle.lang_meaning.specs.Objects.{fresh_symbol}
use Rattle.lang_meaning.specs.State as meaning
use Rattle.mid_code.specs.Arena.{word_at}
use Rattle.mid_code.specs.State.{MidState}
use Rattle.mid_arena.specs.Places.{Places, word_of}
use Rattle.mid_arena.specs.Represents.{Represents}
use Rattle.mid_start.specs.declared.symbol_words.SymbolWord.{SymbolWord}
use Rattle.mid_start.specs.LaidWell.{AreSymbolsThere, AreDistinct}
use Rattle.lang_taken.specs.Taken.{DatumOf}
use Rattle.lang_taken.specs.Failing.{DatumFails}

-- The words represent the state: at the addresses that are lent they are those of an arena that does. The word is that of the value. The symbols
-- that were there before the run are these with their words, each once. The serials of those that the run made have 29 bits.
pub record TakenFrom (names : List (List ℕ)) (z : meaning.State) (v : Value) (words : List ℕ) (word : ℕ) (symbols : List SymbolWord) : Type 0 where
  pub program : ProgramRows
  pub places : Places
  pub machine : MidState
  pub represents : Represents names program places z machine
  pub of_value : word_of places v ≡ Some word
  pub same_words : (address stored : ℕ) → word_at machine.arena address ≡ Some stored → slice_get words (address / 4) ≡ Some stored
  pub listed : AreSymbolsThere names symbols places.symbols
  pub once : AreDistinct places.symbols
  pub serials : (i serial : ℕ) → slice_get z.store i ≡ Some (fresh_symbol serial) → serial < 2 ^ 29

-- wherever the words represent a state and the word is that of a value, the value stands for that datum
pub record IsTaken (words : List ℕ) (word : ℕ) (symbols : List SymbolWord) (place : Place) (expansion : ℕ) (d : Item) : Type 0 where
  pub there :
      (names : List (List ℕ)) (z : meaning.State) (v : Value) → TakenFrom names z v words word symbols → DatumOf names z.store place expansion v d

-- and there it is refused for that reason
pub record IsRefused (words : List ℕ) (word : ℕ) (symbols : List SymbolWord) (place : Place) (expansion : ℕ) (r : Reason) : Type 0 where
  pub there :
      (names : List (List ℕ)) (z : meaning.State) (v : Value) → TakenFrom names z v words word symbols → DatumFails names z.store place expansion v r
