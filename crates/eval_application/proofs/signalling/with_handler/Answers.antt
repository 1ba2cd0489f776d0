-- The body is evaluated under the handler; what is no function is not of the expected class.
use Rattle.std.proofs.Common.{◌∙◌}
use Rattle.eval_state.specs.Frames.{frame_slots}
use Rattle.eval_state.proofs.Stepping.{on_ok}
use Rattle.eval_application.proofs.Handling.{handler_begins, no_handler_begins}
use Rattle.eval_application.proofs.signalling.with_handler.Goals as goal

pub returns-in_ok-link : goal.returns-in_ok-link
returns-in_ok-link c =
    on_ok c.enter.result _ _
    (handler_begins c.args.machine.now c.enter.new.self c.args.handler c.args.body.now c.args.situation c.under_handler.result c.in_ok-link.link
    (λ names b. c.is_function.ensures.seen names (record b { frame = frame_slots names c.args.machine.now.current c.args.machine.now.slots.items }) ∙ c.if-is_function.true) c.in_ok-link.ensures c.under_handler.ensures)
    c.enter.ensures

pub returns-else-is_function : goal.returns-else-is_function
returns-else-is_function c =
    on_ok c.signal_domain.result _ _
    (no_handler_begins c.args.machine.now c.signal_domain.new.self c.args.handler c.args.body.now c.args.situation
    (λ names b. c.is_function.ensures.seen names (record b { frame = frame_slots names c.args.machine.now.current c.args.machine.now.slots.items }) ∙ c.if-is_function.false))
    c.signal_domain.ensures
