-- The record, and then the boxes.
use Rattle.eval_state.proofs.Doing.{over_ok}
use Rattle.eval_application.proofs.Entries.{record_then, record_filled}
use Rattle.eval_application.proofs.entering.keep_record.Goals as goal

pub returns-then-granted : goal.returns-then-granted
returns-then-granted c =
    over_ok c.make_boxes.result
    (record_then c.args.machine.now c.take_record.new.machine c.make_boxes.new.machine c.args.procedure c.args.count c.args.procedure.level c.args.procedure.around _ c.in-Ok.ensures c.if-granted.true)
    c.make_boxes.ensures

pub returns-else-granted : goal.returns-else-granted
returns-else-granted c = record_filled c.args.machine.now c.take_record.new.machine c.drop_operands.new.self c.args.procedure c.args.count c.args.procedure.level c.args.procedure.around _ c.in-Ok.ensures c.if-granted.false c.drop_operands.ensures
