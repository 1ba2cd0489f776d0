-- An exit of the own activation, or a captured one.
use Rattle.std.proofs.Common.{ap, sym, ◌∙◌, reverse}
use Rattle.std.proofs.lemmas.Result.{IfOk-weaker}
use Rattle.std.specs.Prelude.{slice_get}
use Rattle.flat_language.specs.FlatState.{exit_of, exit_in}
use Rattle.eval_state.specs.View.{at}
use Rattle.eval_state.proofs.Captures.{environment_captured}
use Rattle.eval_control.proofs.Jumping.{own_exits}
use Rattle.eval_control.proofs.jumps.exit_at.Goals as goal

pub returns-in-Own : goal.returns-in-Own
returns-in-Own c =
    let m = c.args.machine.now in
    IfOk-weaker c.own_exit.result _ _
    (λ exit e names.
    e ∙ ap (λ xs. slice_get xs c.in-Own.number) (own_exits names m.current (reverse m.frames.items) c.args.situation)
    ∙ ap (λ p. exit_of p (at names m c.args.situation).environment) (sym c.in-Own.is))
    c.own_exit.ensures

pub returns-in-Captured : goal.returns-in-Captured
returns-in-Captured c names =
    let m = c.args.machine.now in
    c.captured_exit.ensures names
    ∙ ap (λ cs. exit_in (slice_get cs c.in-Captured.number)) (environment_captured names m.current (reverse m.frames.items) c.args.situation)
    ∙ ap (λ p. exit_of p (at names m c.args.situation).environment) (sym c.in-Captured.is)
