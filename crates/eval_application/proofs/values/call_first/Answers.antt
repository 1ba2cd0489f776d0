-- The first operand is applied to the others, if there is one.
use Rattle.std.proofs.Common.{arith}
use Rattle.eval_state.proofs.Stepping.{on_ok}
use Rattle.eval_application.proofs.Firsts.{first_called, none_called}
use Rattle.eval_application.proofs.values.call_first.Goals as goal

pub returns-in_default : goal.returns-in_default
returns-in_default c = none_called c.args.machine.now c.give_nil.new.machine c.args.operands c.held_operands-count.result c.args.situation c.held_operands-count.ensures (omega (arith, c.in_default.ensures)) c.give_nil.ensures

pub returns : goal.returns
returns c =
    on_ok c.apply_value.result _ _
    (first_called c.args.machine.now c.take_first-function.new.machine c.apply_value.new.machine c.args.operands c.held_operands-count.result c.in-Some.others c.take_first-function.result c.args.situation c.held_operands-count.ensures (omega (arith, c.in-Some.ensures)) c.take_first-function.ensures)
    c.apply_value.ensures
