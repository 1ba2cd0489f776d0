-- What is told by the words of the memory with which a run ended.
use Rattle.std.specs.Prelude.{ℕ, List, slice_index}
use Rattle.lang_meaning.specs.declared.program.ClassRow.{ClassRow}
use Rattle.mid_told.specs.StandsFor.{IsTold}
use Rattle.rv_machine.specs.State.{State}
use Rattle.back_build.specs.WordsLeft.{AreWordsOf}
use Rattle.back_told.specs.Conditions.{condition_register}

-- this is told of the word in the register that has a condition
pub record IsToldOf (names : List (List ℕ)) (classes : List ClassRow) (s : State) (told : List ℕ) : Type 0 where
  pub words : List ℕ
  pub are : AreWordsOf s words
  pub is : IsTold names classes words (slice_index s.registers condition_register) told
