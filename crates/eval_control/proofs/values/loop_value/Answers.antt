-- The body is evaluated, or the loop ends.
use Rattle.std.proofs.Common.{sym, ◌∙◌}
use Rattle.std.proofs.lemmas.Result.{on_ok_weaker}
use Rattle.eval_state.proofs.Going.{followed}
use Rattle.eval_control.proofs.Framed.{loop_on, loop_off}
use Rattle.eval_control.proofs.values.loop_value.Goals as goal

pub returns-then-is_true : goal.returns-then-is_true
returns-then-is_true c =
    on_ok_weaker c.wait.result (λ x. followed _ _ _ _ x (λ names s b. loop_on s c.args.test.now c.args.body.now _ _ _ _ (sym (c.is_true.ensures names) ∙ c.if-is_true.true))) c.wait.ensures

pub returns-else-is_true : goal.returns-else-is_true
returns-else-is_true c =
    followed _ _ _ _ c.gives.ensures (λ names s b. loop_off s c.args.test.now c.args.body.now _ _ _ _ (sym (c.is_true.ensures names) ∙ c.if-is_true.false))
