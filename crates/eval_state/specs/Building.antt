-- What asking for an object comes to: it is made, or there is no room for it, and that is what the machine comes to.
use Rattle.std.specs.Prelude.{◌≡◌, ℕ, List, Option, Some, None}
use Rattle.lang_meaning.specs.State.{full}
use Rattle.flat_language.specs.FlatState.{gives}
use Rattle.eval_store.specs.declared.word.Word.{Word}
use Rattle.eval_store.specs.declared.object.Object.{Object}
use Rattle.eval_store.specs.Words.{value_of_word}
use Rattle.eval_store.specs.View.{Beside, built, limit_of}
use Rattle.eval_state.specs.declared.frame.Outcome.TheVariants.{Full}
use Rattle.eval_state.specs.declared.machine.Control.TheVariants.{ComeTo}
use Rattle.eval_state.specs.declared.machine.Machine.{Machine}
use Rattle.eval_state.specs.View.{state}

-- an object was made: its word
pub record IsMade (old new : Machine) (size besides : ℕ) (o : Object) (w : Word) : Type 0 where
  pub same : new ≡ record old { store = new.store }
  pub state_is : (names : List (List ℕ)) (b : Beside) → built names (limit_of old.given.limit) size besides o (state names old b) ≡ gives (value_of_word names w) (state names new b)

-- there was no room for it
pub record IsDenied (old new : Machine) (size besides : ℕ) (o : Object) : Type 0 where
  pub asked : ℕ
  pub left : ℕ
  pub same : new ≡ record old { store = new.store; control = ComeTo (Full asked left) }
  pub state_is : (names : List (List ℕ)) (b : Beside) → built names (limit_of old.given.limit) size besides o (state names old b) ≡ record { outcome = full asked left; state = state names new b }

abbrev pub IsBuilt : (old new : Machine) (size besides : ℕ) → Object → Option Word → Type 0
IsBuilt old new size besides o (Some w) = IsMade old new size besides o w
IsBuilt old new size besides o None = IsDenied old new size besides o
