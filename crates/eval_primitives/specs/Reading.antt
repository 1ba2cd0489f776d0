-- What primitives that change nothing answer.
use Rattle.std.specs.Prelude.{◌≡◌, ℕ, ◌<◌, Bool, List, length, Option, Some, is_some}
use Rattle.lang_meaning.specs.declared.primitive.Primitive.{Primitive}
use Rattle.lang_meaning.specs.declared.program.ProgramRows.{ProgramRows}
use Rattle.lang_meaning.specs.Values.{Value, nil, same}
use Rattle.lang_meaning.specs.State.{State}
use Rattle.lang_meaning.specs.Classes.{fetch}
use Rattle.lang_meaning.specs.Primitives.{primitive, as_integer, as_character, as_symbol, as_cons, as_string, as_vector, is_function, is_generic, a_slot}
use Rattle.lang_meaning.specs.Primitives as meaning
use Rattle.eval_store.specs.declared.word.Word.{Word}
use Rattle.eval_store.specs.declared.store.Store.{Store}
use Rattle.eval_store.specs.declared.object.Instance.{Instance}
use Rattle.eval_store.specs.Words.{value_of_word, values_of}
use Rattle.eval_store.specs.View.{Beside, state_of}
use Rattle.eval_primitives.specs.declared.answer.Answer.{Answer}
use Rattle.eval_primitives.specs.declared.group.KindTest.{KindTest}
use Rattle.eval_primitives.specs.declared.group.KindTest.TheVariants as kind
use Rattle.eval_primitives.specs.Answers.{told}
use Rattle.eval_primitives.specs.Objects.{instance_parts, HasInstance}

-- a primitive that reads the store answers so
pub record IsRead (which : Primitive) (arguments : List Word) (s : Store) (a : Answer) : Type 0 where
  pub told : (names : List (List ℕ)) (rows : ProgramRows) (b : Beside)
      → primitive names rows which (values_of names arguments) (state_of names s b) ≡ told names a (state_of names s b)

-- a value is of a kind
abbrev pub is_kind : KindTest → State → Value → Bool
is_kind kind.Null z v = same v nil
is_kind kind.Integer z v = is_some (as_integer v)
is_kind kind.Character z v = is_some (as_character v)
is_kind kind.Symbol z v = is_some (as_symbol z v)
is_kind kind.Cons z v = is_some (as_cons (fetch z v))
is_kind kind.String z v = is_some (as_string (fetch z v))
is_kind kind.Vector z v = is_some (as_vector (fetch z v))
is_kind kind.Function z v = is_function (fetch z v)
is_kind kind.Generic z v = is_generic (fetch z v)

-- whether a word is of a kind
pub record IsOfKind (which : KindTest) (s : Store) (w : Word) (r : Bool) : Type 0 where
  pub seen : (names : List (List ℕ)) (b : Beside) → is_kind which (state_of names s b) (value_of_word names w) ≡ r

-- an instance and a place of its slots
pub record IsSlotAt (w place : Word) (s : Store) (i : Instance) (at : ℕ) : Type 0 where
  pub there : HasInstance s w (Some i)
  pub inside : at < length i.slots
  pub seen : (names : List (List ℕ)) (b : Beside) (next : ℕ × List (Option Value) × Value → ℕ → meaning.Answer)
      → a_slot (value_of_word names w) (value_of_word names place) (state_of names s b) next ≡ next (instance_parts names i) at

-- there is none, and that is answered
pub record IsNoSlot (w place : Word) (s : Store) (a : Answer) : Type 0 where
  pub seen : (names : List (List ℕ)) (b : Beside) (next : ℕ × List (Option Value) × Value → ℕ → meaning.Answer)
      → a_slot (value_of_word names w) (value_of_word names place) (state_of names s b) next ≡ told names a (state_of names s b)
