-- What primitives answer that set a part of an object.
use Rattle.std.specs.Prelude.{◌≡◌, ℕ, List}
use Rattle.lang_meaning.specs.declared.primitive.Primitive.{Primitive}
use Rattle.lang_meaning.specs.declared.program.ProgramRows.{ProgramRows}
use Rattle.lang_meaning.specs.Primitives.{primitive}
use Rattle.eval_store.specs.declared.word.Word.{Word}
use Rattle.eval_store.specs.declared.store.Store.{Store}
use Rattle.eval_store.specs.Words.{values_of}
use Rattle.eval_store.specs.View.{Beside, state_of, seen}
use Rattle.eval_primitives.specs.declared.answer.Answer.{Answer}
use Rattle.eval_primitives.specs.Answers.{told}

-- a primitive answers so and leaves that store; nothing else changes
pub record IsSet (which : Primitive) (arguments : List Word) (old new : Store) (a : Answer) : Type 0 where
  pub told : (names : List (List ℕ)) (rows : ProgramRows) (b : Beside)
      → primitive names rows which (values_of names arguments) (state_of names old b) ≡ told names a (state_of names new b)
  pub besides : (names : List (List ℕ)) (b : Beside) → seen names new b ≡ record (seen names old b) { state = state_of names new b }
