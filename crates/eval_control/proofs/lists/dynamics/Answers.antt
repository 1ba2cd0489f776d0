-- The one at the place, and those behind it.
use Rattle.std.proofs.lemmas.Result.{on_ok_weaker}
use Rattle.eval_state.proofs.Going.{followed}
use Rattle.eval_control.proofs.Waiting.{dynamics_go, dynamics_end}
use Rattle.eval_control.proofs.lists.dynamics.Goals as goal

pub returns-in-Some : goal.returns-in-Some
returns-in-Some c = on_ok_weaker c.hold.result (λ x. followed _ _ _ _ x (λ names s b. dynamics_go s _ _ _ c.args.list.now c.args.count _ _ _ _ c.in-Some.ensures)) c.hold.ensures

pub returns-in-None : goal.returns-in-None
returns-in-None c = on_ok_weaker c.dynamic_body.result (λ x. followed _ _ _ _ x (λ names s b. dynamics_end s _ _ _ c.args.list.now c.args.count _ _ _ c.in-None.ensures)) c.dynamic_body.ensures
