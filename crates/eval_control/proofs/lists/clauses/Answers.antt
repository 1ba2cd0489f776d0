-- The clause at the place, and those behind it.
use Rattle.std.proofs.lemmas.Result.{on_ok_weaker}
use Rattle.eval_state.proofs.Going.{followed}
use Rattle.eval_control.proofs.Waiting.{clauses_go, clauses_end}
use Rattle.eval_control.proofs.lists.clauses.Goals as goal

pub returns-in-Some : goal.returns-in-Some
returns-in-Some c = on_ok_weaker c.wait.result (λ x. followed _ _ _ _ x (λ names s b. clauses_go s c.args.list.now c.args.place c.in-Some.clause.now _ _ _ c.in-Some.ensures)) c.wait.ensures

pub returns-in-None : goal.returns-in-None
returns-in-None c = followed _ _ _ _ c.gives.ensures (λ names s b. clauses_end s c.args.list.now c.args.place _ _ _ c.in-None.ensures)
