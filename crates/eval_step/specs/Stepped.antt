-- One step of the evaluator, and that of the machine of the definitions.
use Rattle.std.specs.Prelude.{◌≡◌, ℕ, Bool, true, false, List, [], Option, Some, None}
use Rattle.eval_machine.specs.Configuration.{Setting, Configuration}
use Rattle.eval_machine.specs.Step.{step}
use Rattle.eval_store.specs.View.{Beside}
use Rattle.eval_state.specs.declared.frame.ContinuationFrame.{ContinuationFrame}
use Rattle.eval_state.specs.Tops.{IsPopped}
use Rattle.eval_state.specs.View.{configuration_of}
use Rattle.eval_step.specs.declared.evaluator.Evaluator.{Evaluator}
use Rattle.eval_step.specs.Runs.{Runs}

-- there is a next configuration, to which it has come
pub record HasStepped (old new : Evaluator) : Type 0 where
  pub next : List (List ℕ) → Setting → Beside → Configuration
  pub is_next : (names : List (List ℕ)) (s : Setting) (b : Beside) → step s (configuration_of names old.machine b) ≡ Some (next names s b)
  pub comes : Runs old new next

-- there is none, and nothing has changed: it is in the same configuration
pub record HasEnded (old new : Evaluator) : Type 0 where
  pub is_end : (names : List (List ℕ)) (s : Setting) (b : Beside) → step s (configuration_of names old.machine b) ≡ None
  pub same_configuration : (names : List (List ℕ)) (b : Beside) → configuration_of names new.machine b ≡ configuration_of names old.machine b
  pub stays : Runs old new (λ names s b. configuration_of names old.machine b)
  pub frames : new.machine.frames.items ≡ old.machine.frames.items
  pub same : new ≡ record old { machine = record old.machine { frames = new.machine.frames } }

abbrev pub IsStepped : Evaluator → Evaluator → Bool → Type 0
IsStepped old new true = HasStepped old new
IsStepped old new false = HasEnded old new

-- the frame on top was taken away; there is none only where there are no frames
pub record NoTop (old new : Evaluator) : Type 0 where
  pub none : old.machine.frames.items ≡ []
  pub frames : new.machine.frames.items ≡ old.machine.frames.items
  pub same : new ≡ record old { machine = record old.machine { frames = new.machine.frames } }

pub record HadTop (old new : Evaluator) (w : ContinuationFrame) : Type 0 where
  pub popped : IsPopped old.machine new.machine (Some w)
  pub same : new ≡ record old { machine = new.machine }

abbrev pub IsTopTaken : Evaluator → Evaluator → Option ContinuationFrame → Type 0
IsTopTaken old new None = NoTop old new
IsTopTaken old new (Some w) = HadTop old new w
