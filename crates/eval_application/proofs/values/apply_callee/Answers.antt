-- A procedure, or a generic function.
use Rattle.eval_state.proofs.Stepping.{on_ok}
use Rattle.eval_application.proofs.Callees.{callee_applied}
use Rattle.eval_application.proofs.values.apply_callee.Goals as goal

pub returns-in-Procedure : goal.returns-in-Procedure
returns-in-Procedure c =
    on_ok c.apply_procedure.result _ _
    (callee_applied c.args.machine.now c.apply_procedure.new.machine c.args.callee _ c.args.operands c.args.level c.args.around c.in-Procedure.is)
    c.apply_procedure.ensures

pub returns-in-Generic : goal.returns-in-Generic
returns-in-Generic c =
    on_ok c.apply_generic.result _ _
    (callee_applied c.args.machine.now c.apply_generic.new.machine c.args.callee _ c.args.operands c.args.level c.args.around c.in-Generic.is)
    c.apply_generic.ensures
