-- The boxes, and then the body.
use Rattle.eval_state.proofs.Doing.{over_ok}
use Rattle.eval_application.proofs.Entries.{boxes_then, boxes_filled}
use Rattle.eval_application.proofs.entering.make_boxes.Goals as goal

pub returns-then-granted : goal.returns-then-granted
returns-then-granted c =
    over_ok c.begin_body.result
    (boxes_then c.args.machine.now c.take_procedure_boxes.new.machine c.begin_body.new.machine c.args.procedure c.args.count c.args.procedure.level c.args.procedure.around _ c.in-Ok.ensures c.if-granted.true)
    c.begin_body.ensures

pub returns-else-granted : goal.returns-else-granted
returns-else-granted c = boxes_filled c.args.machine.now c.take_procedure_boxes.new.machine c.drop_operands.new.self c.args.procedure c.args.count c.args.procedure.level c.args.procedure.around _ c.in-Ok.ensures c.if-granted.false c.drop_operands.ensures
