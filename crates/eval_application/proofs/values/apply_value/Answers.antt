-- What the value is found to be is applied.
use Rattle.eval_state.proofs.Stepping.{on_ok}
use Rattle.eval_application.proofs.Callees.{value_applied}
use Rattle.eval_application.proofs.values.apply_value.Goals as goal

pub returns : goal.returns
returns c =
    on_ok c.apply_found.result _ _
    (value_applied c.args.machine.now c.apply_found.new.machine c.args.word c.in_ok-function.function c.args.operands c.args.level c.args.around c.in_ok-function.ensures)
    c.apply_found.ensures
