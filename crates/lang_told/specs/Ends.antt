-- What is told of a program that ended by a condition that no handler took.
use Rattle.std.specs.Prelude.{◌≡◌, ℕ, List}
use Rattle.base.specs.declared.place.Place.{Place}
use Rattle.lang_meaning.specs.declared.program.ProgramRows.{ProgramRows}
use Rattle.lang_meaning.specs.Meaning.{Meant, ended_unhandled}
use Rattle.lang_meaning.specs.Values.{Value}
use Rattle.lang_told.specs.Told.{Tells}

-- the program means that it ends so, and this is told of the condition
pub record TellsEnd (names : List (List ℕ)) (program : ProgramRows) (m : Meant) (told : List ℕ) : Type 0 where
  pub condition : Value
  pub place : Place
  pub end : m.end ≡ ended_unhandled condition place
  pub tells : Tells names program.classes m.store condition told
