-- The form at the place, and those behind it.
use Rattle.std.proofs.lemmas.Result.{on_ok_weaker}
use Rattle.eval_state.proofs.Going.{followed}
use Rattle.eval_control.proofs.Waiting.{sequence_goes, sequence_ends}
use Rattle.eval_control.proofs.lists.sequence.Goals as goal

pub returns-in_ok-left-in-Some : goal.returns-in_ok-left-in-Some
returns-in_ok-left-in-Some c = on_ok_weaker c.wait.result (λ x. followed _ _ _ _ x (λ names s b. sequence_goes s _ c.args.list.now c.args.place _ _ _ _ _ c.in-Some.ensures c.in_ok-left-in-Some.ensures)) c.wait.ensures

pub returns-in-None : goal.returns-in-None
returns-in-None c = followed _ _ _ _ c.gives.ensures (λ names s b. sequence_ends s _ c.args.list.now c.args.place _ _ _ c.in-None.ensures)
