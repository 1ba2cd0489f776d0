-- What was read is given to the evaluator, and what was printed is taken from it: it is in the same configuration, and other bytes stand beside it.
use Rattle.std.specs.Prelude.{◌≡◌, ℕ, true, List, [], ◌++◌}
use Rattle.eval_store.specs.View.{Beside}
use Rattle.eval_step.specs.declared.evaluator.Evaluator.{Evaluator}
use Rattle.eval_step.specs.Runs.{Stands}

-- what was printed was written
pub record IsWritten (old new : Evaluator) : Type 0 where
  pub machine : new.machine ≡ old.machine
  pub none : new.printed.items ≡ []
  pub same : new ≡ record old { printed = new.printed }
  pub stands : (names : List (List ℕ)) (written unread : List ℕ) (b : Beside) → Stands names old written unread b
      → Stands names new (written ++ old.printed.items) unread b

-- the next bytes were read
pub record IsGivenBytes (old new : Evaluator) (bytes : List ℕ) : Type 0 where
  pub machine : new.machine ≡ old.machine
  pub ahead : new.ahead.items ≡ bytes
  pub taken : new.taken ≡ 0
  pub same : new ≡ record old { ahead = new.ahead; taken = new.taken }
  pub stands : (names : List (List ℕ)) (written unread : List ℕ) (b : Beside) → Stands names old written (bytes ++ unread) b
      → Stands names new written unread b

-- all was read
pub record IsAllRead (old new : Evaluator) : Type 0 where
  pub machine : new.machine ≡ old.machine
  pub ended : new.ended ≡ true
  pub same : new ≡ record old { ended = new.ended }
  pub stands : (names : List (List ℕ)) (written : List ℕ) (b : Beside) → Stands names old written [] b → Stands names new written [] b
