-- What the name calls is applied; or the name is undefined.
use Rattle.flat_language.specs.FlatNodes.{tables}
use Rattle.eval_state.proofs.Stepping.{on_ok}
use Rattle.eval_application.proofs.Callees.{name_applied, no_name_applied}
use Rattle.eval_application.proofs.values.apply_name.Goals as goal

pub returns-in-Some : goal.returns-in-Some
returns-in-Some c =
    on_ok c.apply_callee.result _ _
    (name_applied c.args.machine.now c.apply_callee.new.machine c.args.name.0 c.callee.result c.in-Some.callee c.args.operands c.args.level c.args.around
    (λ names g. c.callee.ensures names (tables c.args.machine.now.given.program.now) g.layout) c.in-Some.is)
    c.apply_callee.ensures

pub returns-in-None : goal.returns-in-None
returns-in-None c =
    on_ok c.signal_undefined.result _ _
    (no_name_applied c.args.machine.now c.drop_operands.new.self c.signal_undefined.new.self c.args.name.0 c.callee.result c.args.operands c.args.level c.args.around
    (λ names g. c.callee.ensures names (tables c.args.machine.now.given.program.now) g.layout) c.in-None.is c.drop_operands.ensures)
    c.signal_undefined.ensures
