-- **The evaluator in a configuration**: its machine is that of the definitions beside what the evaluator has for variables and streams; and
-- what an operation makes of it.
use Rattle.std.specs.Prelude.{◌≡◌, ℕ, true, List, [], ◌++◌, drop}
use Rattle.lang_meaning.specs.Primitives.{is_fresh_line}
use Rattle.flat_language.specs.FlatState.{FlatState}
use Rattle.eval_machine.specs.Configuration.{Setting, Configuration, ContinuationFrame}
use Rattle.eval_store.specs.NamedValues.{Holds}
use Rattle.eval_store.specs.View.{Beside}
use Rattle.eval_state.specs.View.{IsGiven, setting_of, configuration_of, frames, state}
use Rattle.eval_step.specs.declared.evaluator.Evaluator.{Evaluator}

-- what stands beside the machine, where these bytes were written before, and these are left to read
pub record Stands (names : List (List ℕ)) (e : Evaluator) (written unread : List ℕ) (b : Beside) : Type 0 where
  pub globals : Holds names e.globals b.globals
  pub dynamics : Holds names e.dynamics b.dynamics
  pub printed : b.printed ≡ written ++ e.printed.items
  pub at_start : e.at_start ≡ is_fresh_line b.printed
  pub input : b.input ≡ drop e.taken e.ahead.items ++ unread
  pub ended : e.ended ≡ true → unread ≡ []

-- the evaluator has come to a configuration
pub record IsAtConfiguration (names : List (List ℕ)) (e : Evaluator) (written unread : List ℕ) (m : Configuration) : Type 0 where
  pub beside : Beside
  pub stands : Stands names e written unread beside
  pub is : configuration_of names e.machine beside ≡ m

-- it has come to that configuration, whatever stood beside it; whether all was read is as it was
pub record Runs (old new : Evaluator) (f : List (List ℕ) → Setting → Beside → Configuration) : Type 0 where
  pub given : new.machine.given ≡ old.machine.given
  pub ended : new.ended ≡ old.ended
  pub comes : (names : List (List ℕ)) (written unread : List ℕ) (b : Beside) → IsGiven names old.machine.given → Stands names old written unread b
      → IsAtConfiguration names new written unread (f names (setting_of names old.machine.given) b)

-- it has gone on as `next` says of the frames below so many operands of the old machine, and of its state
abbrev pub RunsAs : (old new : Evaluator) → ℕ → (List (List ℕ) → Setting → List ContinuationFrame → FlatState → Configuration) → Type 0
RunsAs old new operands next =
    Runs old new (λ names s b. next names s (frames names old.machine operands) (state names old.machine b))
