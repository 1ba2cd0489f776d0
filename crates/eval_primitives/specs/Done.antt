-- What primitives come to that make an object, or count what they pass.
use Rattle.std.specs.Prelude.{◌≡◌, ℕ, ◌+◌, ◌^◌, ◌≤◌, List, Option, None, replicate, Result, Ok, Err, length}
use Rattle.lang_meaning.specs.declared.primitive.Primitive.{Primitive}
use Rattle.lang_meaning.specs.declared.program.ProgramRows.{ProgramRows}
use Rattle.lang_meaning.specs.Values.{object, nil}
use Rattle.lang_meaning.specs.Objects as objects
use Rattle.lang_meaning.specs.State.{State}
use Rattle.lang_meaning.specs.Primitives.{primitive}
use Rattle.lang_meaning.specs.Primitives as meaning
use Rattle.flat_language.specs.FlatState.{charged}
use Rattle.eval_store.specs.declared.word.Word.{Word}
use Rattle.eval_store.specs.declared.object.Object.{Object}
use Rattle.eval_store.specs.declared.store.Store.{Store}
use Rattle.eval_store.specs.declared.store.Halt.{Halt}
use Rattle.eval_store.specs.declared.store.Halt.TheVariants.{NoMemory, Spent, Full}
use Rattle.eval_store.specs.Words.{value_of_word, values_of}
use Rattle.eval_store.specs.View.{Beside, state_of, seen, limit_of, placed}
use Rattle.eval_primitives.specs.declared.answer.Answer.{Answer}
use Rattle.eval_primitives.specs.declared.answer.Answer.TheVariants.{Gives}
use Rattle.eval_primitives.specs.Answers.{AnswersAs, carried_out}

-- a primitive comes to that, whatever the program is
pub record IsPrimitiveDone (limit : Option ℕ) (which : Primitive) (arguments : List Word) (old new : Store) (r : Result Answer Halt) : Type 0 where
  pub comes : (names : List (List ℕ)) (rows : ProgramRows) (b : Beside)
      → AnswersAs names r (seen names new b) (carried_out (limit_of limit) (primitive names rows which (values_of names arguments) (state_of names old b)) (seen names old b))

-- an answer of the meaning is carried out
pub record Brings (limit : Option ℕ) (answer : List (List ℕ) → State → meaning.Answer) (old new : Store) (r : Result Answer Halt) : Type 0 where
  pub comes : (names : List (List ℕ)) (b : Beside)
      → AnswersAs names r (seen names new b) (carried_out (limit_of limit) (answer names (state_of names old b)) (seen names old b))

-- an object whose words were granted stands in the store, under its number
pub record IsStored (size besides : ℕ) (o : Object) (old new : Store) (w : Word) : Type 0 where
  pub number : (names : List (List ℕ)) (b : Beside) → value_of_word names w ≡ object (length (seen names old b).state.store)
  pub after : (names : List (List ℕ)) (b : Beside) → seen names new b ≡ placed names o (charged (size + besides) (seen names old b))

-- it is there, or there is no memory for it, or the units pass 64 bits
abbrev pub ObjectIsStored : (size besides : ℕ) → Object → Store → Store → Result Word Halt → Type 0
ObjectIsStored size besides o old new (Ok w) = IsStored size besides o old new w
ObjectIsStored size besides o old new (Err (Full asked left)) = ⊥
ObjectIsStored size besides o old new (Err Spent) = (names : List (List ℕ)) (b : Beside) → 2 ^ 64 ≤ (seen names old b).state.units + (size + besides)
ObjectIsStored size besides o old new (Err NoMemory) = Unit {0}

-- what was kept, as an answer
abbrev pub answer_of : Result Word Halt → Result Answer Halt
answer_of (Ok w) = Ok (Gives w)
answer_of (Err h) = Err h

-- an instance with so many slots, none of which has a value
abbrev pub unbound : (class count : ℕ) → objects.Object
unbound class count = objects.instance class (replicate count None) nil
