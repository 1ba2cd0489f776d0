-- The handler is applied above both frames.
use Rattle.std.proofs.Common.{ℕ, List, length, ap, ◌∙◌}
use Rattle.eval_state.specs.declared.frame.ContinuationFrame.{ContinuationFrame}
use Rattle.eval_state.proofs.Stepping.{on_ok}
use Rattle.eval_application.proofs.Handling.{handled, link_above}
use Rattle.eval_application.proofs.signalling.handle.Goals as goal

pub returns : goal.returns
returns c =
    on_ok c.apply_value.result _ _
    (handled c.args.machine.now c.push_frame.new.self c.push_frame-2.new.self c.push_operand.new.self c.apply_value.new.machine c.args.frame c.args.handler c.args.condition c.inside_signal-within.result c.args.level c.args.around
    (c.inside_signal-within.ensures ∙ ap (λ (n : ℕ). record c.args.around { exits = n; handlers = c.args.handler.outside }) (ap (λ (ws : List ContinuationFrame). length ws) c.as_slice-link.ensures.value ∙ link_above c.args.machine.now c.push_frame.new.self c.args.frame c.in_ok-push_frame.ensures))
    c.in_ok-push_frame.ensures c.in_ok-push_frame-2.ensures c.in_ok-push_operand.ensures)
    c.apply_value.ensures
