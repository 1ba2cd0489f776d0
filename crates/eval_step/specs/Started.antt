-- The evaluator before its first step, and the machine of the definitions there.
use Rattle.std.specs.Prelude.{◌≡◌, ℕ, false, List, []}
use Rattle.eval_machine.specs.Run.{start}
use Rattle.eval_store.specs.declared.store.Store.{Store}
use Rattle.eval_store.specs.Spelling.{IsSpelling}
use Rattle.eval_store.specs.InitialHeap.{HasInitialHeap}
use Rattle.eval_state.specs.declared.given.Given.{Given}
use Rattle.eval_state.specs.View.{setting_of}
use Rattle.eval_step.specs.declared.evaluator.Evaluator.{Evaluator}
use Rattle.eval_step.specs.Runs.{IsAtConfiguration}

-- it is there, where nothing was written yet, whatever is to be read
pub record IsStarted (given : Given) (store : Store) (level : ℕ) (e : Evaluator) : Type 0 where
  pub is_given : e.machine.given ≡ given
  pub not_ended : e.ended ≡ false
  pub comes : (names : List (List ℕ)) (input : List ℕ) → IsSpelling names given.spellings → HasInitialHeap names given.program.now store given.layout.now
      → IsAtConfiguration names e [] input (start (setting_of names given) input level)
