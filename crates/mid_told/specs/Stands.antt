-- Words that represent a state of the meaning of a program with these classes.
use Rattle.std.specs.Prelude.{◌≡◌, ℕ, ◌/◌, List, Some, slice_get}
use Rattle.lang_meaning.specs.declared.program.ProgramRows.{ProgramRows}
use Rattle.lang_meaning.specs.declared.program.ClassRow.{ClassRow}
use Rattle.lang_meaning.specs.State as meaning
use Rattle.mid_code.specs.Arena.{word_at}
use Rattle.mid_code.specs.State.{MidState}
use Rattle.mid_arena.specs.Places.{Places}
use Rattle.mid_arena.specs.Represents.{Represents}

-- at the addresses that are lent they are those of an arena that does
pub record Stands (names : List (List ℕ)) (classes : List ClassRow) (z : meaning.State) (words : List ℕ) : Type 0 where
  pub program : ProgramRows
  pub classes_are : program.classes ≡ classes
  pub places : Places
  pub machine : MidState
  pub represents : Represents names program places z machine
  pub same_words : (address stored : ℕ) → word_at machine.arena address ≡ Some stored → slice_get words (address / 4) ≡ Some stored
