-- The one at the place, and those behind it.
use Rattle.std.proofs.Common.{refl}
use Rattle.std.proofs.lemmas.Result.{on_ok_weaker}
use Rattle.eval_state.proofs.Going.{followed}
use Rattle.eval_control.proofs.Waiting.{arguments_go, arguments_end}
use Rattle.eval_step.proofs.Lifting.{lifted_ok}
use Rattle.eval_step.proofs.Running.{runs_on}
use Rattle.eval_step.proofs.evaluator.Evaluator.arguments.Goals as goal

pub returns-in-Some : goal.returns-in-Some
returns-in-Some c =
    lifted_ok c.hold.result c.args.self.now (record c.args.self.now { machine = c.hold.new.self }) _ refl
    (on_ok_weaker c.hold.result (λ x. followed _ _ _ _ x (λ names s b. arguments_go s _ _ c.args.list.now c.args.count _ _ _ _ c.in-Some.ensures)) c.hold.ensures)

pub returns-in-None : goal.returns-in-None
returns-in-None c = on_ok_weaker c.operate.result (λ x. runs_on _ _ _ _ x (λ names s b. arguments_end s _ _ c.args.list.now c.args.count _ _ _ c.in-None.ensures)) c.operate.ensures
