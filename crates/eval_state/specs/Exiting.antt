-- What a machine is once a new exit was made.
use Rattle.std.specs.Prelude.{◌≡◌, ℕ, List}
use Rattle.flat_language.specs.FlatState.{exit_made}
use Rattle.eval_store.specs.View.{Beside}
use Rattle.eval_state.specs.declared.machine.Machine.{Machine}
use Rattle.eval_state.specs.View.{state}

pub record IsNewExit (old new : Machine) (number : ℕ) : Type 0 where
  pub same : new ≡ record old { store = new.store }
  pub number_is : (names : List (List ℕ)) (b : Beside) → number ≡ (state names old b).state.exits
  pub state_is : (names : List (List ℕ)) (b : Beside) → state names new b ≡ exit_made (state names old b)
