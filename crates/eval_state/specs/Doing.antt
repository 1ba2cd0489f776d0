-- What a machine is once something was done to its state that gives a value, or words were wanting for it.
use Rattle.std.specs.Prelude.{◌≡◌, ℕ, List, Bool, true, false, Option, Some, None}
use Rattle.lang_meaning.specs.State.{full}
use Rattle.flat_language.specs.FlatState.{FlatState, FlatEvaluated, gives}
use Rattle.eval_store.specs.declared.word.Word.{Word}
use Rattle.eval_store.specs.declared.word.Word.TheVariants.{Nil}
use Rattle.eval_store.specs.Words.{value_of_word}
use Rattle.eval_store.specs.View.{Beside}
use Rattle.eval_state.specs.declared.frame.Outcome.TheVariants.{Full}
use Rattle.eval_state.specs.declared.machine.Control.TheVariants.{ComeTo}
use Rattle.eval_state.specs.declared.machine.Machine.{Machine}
use Rattle.eval_state.specs.View.{state}

-- what is done to a state, where names have these texts
abbrev pub Doing : Type 0
Doing = List (List ℕ) → FlatState → FlatEvaluated

-- it gives a value, and all but the store is as it was
pub record Gives (old new : Machine) (f : Doing) (w : Word) : Type 0 where
  pub same : new ≡ record old { store = new.store }
  pub state_is : (names : List (List ℕ)) (b : Beside) → f names (state names old b) ≡ gives (value_of_word names w) (state names new b)

-- words are wanting: Full is what the machine comes to, and all but the store is as it was
pub record Fills (old new : Machine) (f : Doing) : Type 0 where
  pub asked : ℕ
  pub left : ℕ
  pub same : new ≡ record old { control = ComeTo (Full asked left); store = new.store }
  pub state_is : (names : List (List ℕ)) (b : Beside) → f names (state names old b) ≡ record { outcome = full asked left; state = state names new b }

-- it gave a word, or words were wanting
abbrev pub GivesWord : Machine → Machine → Doing → Option Word → Type 0
GivesWord old new f (Some w) = Gives old new f w
GivesWord old new f None = Fills old new f

-- it was done, and its value is nil; or words were wanting
abbrev pub IsEffectDone : Machine → Machine → Doing → Bool → Type 0
IsEffectDone old new f true = Gives old new f Nil
IsEffectDone old new f false = Fills old new f
