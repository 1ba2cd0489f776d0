-- **Several steps of the evaluator**, and those of the machine of the definitions.
use Rattle.std.specs.Prelude.{◌≡◌, ℕ, Bool, true, false, List}
use Rattle.eval_machine.specs.Configuration.{Setting}
use Rattle.eval_machine.specs.Run.{steps, begins, forms_begun, IsEnd}
use Rattle.eval_store.specs.View.{Beside}
use Rattle.eval_state.specs.View.{IsGiven, setting_of, configuration_of}
use Rattle.eval_step.specs.declared.evaluator.Evaluator.{Evaluator}
use Rattle.eval_step.specs.Runs.{Stands, IsAtConfiguration}

-- it has come to the configuration after so many steps, in which no form began, whatever stood beside it
pub record HasReached (old new : Evaluator) (n : ℕ) : Type 0 where
  pub given : new.machine.given ≡ old.machine.given
  pub ended : new.ended ≡ old.ended
  pub comes : (names : List (List ℕ)) (written unread : List ℕ) (b : Beside) → IsGiven names old.machine.given → Stands names old written unread b
      → IsAtConfiguration names new written unread (steps (setting_of names old.machine.given) n (configuration_of names old.machine b))
  pub begun : (names : List (List ℕ)) (written unread : List ℕ) (b : Beside) → IsGiven names old.machine.given → Stands names old written unread b
      → forms_begun (setting_of names old.machine.given) n (configuration_of names old.machine b) ≡ 0

-- why it stopped there: a form begins in the next step, or the machine has ended
abbrev pub StopsBecause : Evaluator → Bool → Type 0
StopsBecause e true = (names : List (List ℕ)) (b : Beside) → begins (configuration_of names e.machine b).control ≡ true
StopsBecause e false = (names : List (List ℕ)) (s : Setting) (b : Beside) → IsEnd s (configuration_of names e.machine b)

pub record IsAtForm (old new : Evaluator) (more : Bool) : Type 0 where
  pub count : ℕ
  pub reached : HasReached old new count
  pub stopped : StopsBecause new more
