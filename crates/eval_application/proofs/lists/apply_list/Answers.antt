-- The elements become operands, to which the function is applied.
use Rattle.std.proofs.Common.{◌∙◌}
use Rattle.eval_state.specs.Frames.{frame_slots}
use Rattle.eval_state.proofs.Stepping.{on_ok}
use Rattle.eval_application.proofs.Spreads.{list_applied, list_not_proper, no_function_applied}
use Rattle.eval_application.proofs.lists.apply_list.Goals as goal

pub returns-then-not-is_function : goal.returns-then-not-is_function
returns-then-not-is_function c =
    on_ok c.signal_domain.result _ _
    (no_function_applied c.args.machine.now c.signal_domain.new.self c.args.function c.args.list c.args.situation
    (λ names b. c.is_function.ensures.seen names (record b { frame = frame_slots names c.args.machine.now.current c.args.machine.now.slots.items }) ∙ c.if-not-is_function.true))
    c.signal_domain.ensures

pub returns-then-elements : goal.returns-then-elements
returns-then-elements c =
    on_ok c.apply_value.result _ _
    (list_applied c.args.machine.now c.push_elements.new.machine c.charge.new.self c.apply_value.new.machine c.args.function c.args.list c.in_ok-elements.elements c.args.situation
    (λ names b. c.is_function.ensures.seen names (record b { frame = frame_slots names c.args.machine.now.current c.args.machine.now.slots.items }) ∙ c.if-not-is_function.false)
    c.in_ok-elements.ensures c.if-elements.true c.in_ok-charge.ensures)
    c.apply_value.ensures

pub returns-else-elements : goal.returns-else-elements
returns-else-elements c =
    on_ok c.signal_domain-else-elements.result _ _
    (list_not_proper c.args.machine.now c.push_elements.new.machine c.charge.new.self c.drop_operands.new.self c.signal_domain-else-elements.new.self c.args.function c.args.list c.in_ok-elements.elements c.args.situation
    (λ names b. c.is_function.ensures.seen names (record b { frame = frame_slots names c.args.machine.now.current c.args.machine.now.slots.items }) ∙ c.if-not-is_function.false)
    c.in_ok-elements.ensures c.if-elements.false c.in_ok-charge.ensures c.drop_operands.ensures)
    c.signal_domain-else-elements.ensures
