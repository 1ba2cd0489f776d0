-- The loop is charged, and its test is evaluated.
use Rattle.std.proofs.Common.{ap, ◌∙◌, refl}
use Rattle.std.proofs.lemmas.Result.{on_ok_weaker}
use Rattle.flat_language.specs.FlatForm.{while_form}
use Rattle.eval_state.specs.declared.machine.Machine.{Machine}
use Rattle.eval_state.specs.View.{at, frames, state}
use Rattle.eval_control.specs.Begins.{begins}
use Rattle.eval_control.proofs.Beginning.{form_begins}
use Rattle.eval_step.proofs.Lifting.{lifted}
use Rattle.eval_step.proofs.Running.{runs_from}
use Rattle.eval_step.proofs.evaluator.Evaluator.again.Goals as goal

pub returns : goal.returns
returns c =
    let e = c.args.self.now in
    let m = e.machine in
    let p = c.args.situation in
    let f = while_form c.args.test.now c.args.body.now in
    on_ok_weaker c.loop_turn.result
    (λ x. runs_from e c.charge.new.self (record e { machine = c.loop_turn.new.machine }) _ _ (ap (λ (n : Machine). n.given) c.in_ok-charge.ensures.same)
    (lifted (record e { machine = c.charge.new.self }) (record e { machine = c.loop_turn.new.machine }) _ refl x)
    (λ names s b.
    ap (λ (n : Machine). begins s f (at names n p) (frames names n 0) (state names c.charge.new.self b)) c.in_ok-charge.ensures.same
    ∙ ap (λ z. begins s f (at names m p) (frames names m 0) z) (c.in_ok-charge.ensures.state_is names b)
    ∙ form_begins s f (at names m p) (frames names m 0) (state names m b)))
    c.loop_turn.ensures
