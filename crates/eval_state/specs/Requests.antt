-- What a machine is once words were asked for.
use Rattle.std.specs.Prelude.{◌≡◌, ℕ, List, Bool, true, false}
use Rattle.lang_meaning.specs.Values.{nil}
use Rattle.lang_meaning.specs.State.{full}
use Rattle.flat_language.specs.FlatState.{FlatState, FlatEvaluated, gives}
use Rattle.eval_machine.specs.Applications.{requested}
use Rattle.eval_store.specs.View.{Beside, limit_of}
use Rattle.eval_state.specs.declared.frame.Outcome.{Outcome}
use Rattle.eval_state.specs.declared.frame.Outcome.TheVariants.{Full}
use Rattle.eval_state.specs.declared.machine.Control.TheVariants.{ComeTo}
use Rattle.eval_state.specs.declared.machine.Machine.{Machine}
use Rattle.eval_state.specs.Frames.{outcome_of}
use Rattle.eval_state.specs.View.{state}

-- they are granted, and all else is as it was
pub record IsGranted (old new : Machine) (heap stack : ℕ) : Type 0 where
  pub same : new ≡ record old { store = new.store }
  pub state_is : (names : List (List ℕ)) (b : Beside) → requested (limit_of old.given.limit) heap stack (state names old b) ≡ gives nil (state names new b)

-- they do not fit: the outcome is what comes, which is Full, and all else is as it was
pub record IsRequestRefused (old new : Machine) (heap stack : ℕ) : Type 0 where
  pub outcome : Outcome
  pub asked : ℕ
  pub left : ℕ
  pub is_full : outcome ≡ Full asked left
  pub same : new ≡ record old { control = ComeTo outcome; store = new.store }
  pub state_is : (names : List (List ℕ)) (b : Beside) → requested (limit_of old.given.limit) heap stack (state names old b) ≡ record { outcome = outcome_of names outcome; state = state names new b }

abbrev pub IsAsked : Machine → Machine → (heap stack : ℕ) → (granted : Bool) → Type 0
IsAsked old new heap stack true = IsGranted old new heap stack
IsAsked old new heap stack false = IsRequestRefused old new heap stack

-- the same for several requests one after another, which come to that
pub record AreGranted (old new : Machine) (f : List (List ℕ) → FlatState → FlatEvaluated) : Type 0 where
  pub same : new ≡ record old { store = new.store }
  pub state_is : (names : List (List ℕ)) (b : Beside) → f names (state names old b) ≡ gives nil (state names new b)

pub record AreRefused (old new : Machine) (f : List (List ℕ) → FlatState → FlatEvaluated) : Type 0 where
  pub asked : ℕ
  pub left : ℕ
  pub same : new ≡ record old { control = ComeTo (Full asked left); store = new.store }
  pub state_is : (names : List (List ℕ)) (b : Beside) → f names (state names old b) ≡ record { outcome = full asked left; state = state names new b }

abbrev pub IsTried : Machine → Machine → (List (List ℕ) → FlatState → FlatEvaluated) → (granted : Bool) → Type 0
IsTried old new f true = AreGranted old new f
IsTried old new f false = AreRefused old new f
