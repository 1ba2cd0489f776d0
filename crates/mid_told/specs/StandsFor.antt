-- What is told of a condition that stands in the words of memory, by the word of the condition.
use Rattle.std.specs.Prelude.{◌≡◌, ℕ, ◌/◌, List, Some, slice_get}
use Rattle.lang_meaning.specs.declared.program.ProgramRows.{ProgramRows}
use Rattle.lang_meaning.specs.declared.program.ClassRow.{ClassRow}
use Rattle.lang_meaning.specs.Values.{Value}
use Rattle.lang_meaning.specs.State as meaning
use Rattle.mid_code.specs.Arena.{word_at}
use Rattle.mid_code.specs.State.{MidState}
use Rattle.mid_arena.specs.Places.{Places, word_of}
use Rattle.mid_arena.specs.Represents.{Represents}
use Rattle.lang_told.specs.Told.{Tells}

-- The words represent the state of a program with these classes: at the addresses that are lent they are those of an arena that does. The word is that
-- of the value.
pub record StandsFor (names : List (List ℕ)) (classes : List ClassRow) (z : meaning.State) (v : Value) (words : List ℕ) (word : ℕ) : Type 0 where
  pub program : ProgramRows
  pub classes_are : program.classes ≡ classes
  pub places : Places
  pub machine : MidState
  pub represents : Represents names program places z machine
  pub of_value : word_of places v ≡ Some word
  pub same_words : (address stored : ℕ) → word_at machine.arena address ≡ Some stored → slice_get words (address / 4) ≡ Some stored

-- wherever the words represent a state and the word is that of a value, this is told of it
pub record IsTold (names : List (List ℕ)) (classes : List ClassRow) (words : List ℕ) (word : ℕ) (told : List ℕ) : Type 0 where
  pub there : (z : meaning.State) (v : Value) → StandsFor names classes z v words word → Tells names classes z.store v told
