-- Transfers to exits that forms name.
use Rattle.std.proofs.Common.{◌≡◌, ℕ, List, Option, refl, ap}
use Rattle.lang_meaning.specs.Values.{Value}
use Rattle.lang_meaning.specs.State.{Landing}
use Rattle.flat_language.specs.declared.place.ExitPlace.{ExitPlace}
use Rattle.flat_language.specs.FlatState.{exit_of}
use Rattle.eval_machine.specs.Applications.{transfer}
use Rattle.eval_state.specs.declared.situation.Situation.{Situation}
use Rattle.eval_state.specs.declared.situation.Activation.{Activation}
use Rattle.eval_state.specs.declared.machine.Machine.{Machine}
use Rattle.eval_state.specs.declared.frame.ContinuationFrame.{ContinuationFrame}
use Rattle.eval_state.specs.Frames.{own_in, situation_in, environment_in}
use Rattle.eval_state.specs.View.{StepsTo, at, frames, state, dynamic_context}
use Rattle.eval_state.proofs.Going.{followed}

-- the exits of an environment
pub own_exits : (names : List (List ℕ)) (a : Activation) (ws : List ContinuationFrame) (s : Situation) → own_in ws s.own ≡ (situation_in names a ws s).environment.exits
unfolding situation_in environment_in
own_exits names a ws s = refl

-- to the exit of a place, from a situation
pub transferred : (old new : Machine) (place : ExitPlace) (exit : Option ℕ) (v : List (List ℕ) → Value) (landing : Landing) (s : Situation)
    → ((names : List (List ℕ)) → exit ≡ exit_of place (at names old s).environment)
    → StepsTo old new (λ names t b. transfer t exit (v names) landing s.level (dynamic_context names old s.around) (frames names old 0) (state names old b))
    → StepsTo old new (λ names t b. transfer t (exit_of place (at names old s).environment) (v names) landing (at names old s).level (at names old s).around
    (frames names old 0) (state names old b))
unfolding situation_in
transferred old new place exit v landing s is x =
    followed old new (λ names t b. transfer t exit (v names) landing s.level (dynamic_context names old s.around) (frames names old 0) (state names old b))
    (λ names t b. transfer t (exit_of place (at names old s).environment) (v names) landing (at names old s).level (at names old s).around
    (frames names old 0) (state names old b)) x
    (λ names t b. ap (λ e. transfer t e (v names) landing s.level (dynamic_context names old s.around) (frames names old 0) (state names old b)) (is names))
