-- The list, and then the record.
use Rattle.eval_state.proofs.Doing.{over_ok, does_some, does_none}
use Rattle.eval_application.proofs.Gathered.{rest_then_by, rest_filled_by}
use Rattle.eval_application.proofs.entering.gather_rest.Goals as goal

pub returns-in_default : goal.returns-in_default
returns-in_default c =
    rest_filled_by c.args.machine.now c.make_list.new.machine c.drop_operands.new.self c.args.procedure c.len-required.result c.args.count c.args.procedure.level c.args.procedure.around c.len-required.ensures c.requires.taken c.requires.held c.requires.rest
    (does_none c.args.machine.now c.make_list.new.machine _ c.in_ok-tail.field-0 c.in_ok-tail.ensures c.in_default.is) c.drop_operands.ensures

pub returns : goal.returns
returns c =
    over_ok c.keep_record.result
    (rest_then_by c.args.machine.now c.make_list.new.machine c.drop_operands-2.new.self c.push_operand.new.self c.keep_record.new.machine c.args.procedure c.len-required.result c.args.count c.args.procedure.level c.args.procedure.around c.in-Some.tail c.len-required.ensures c.requires.taken c.requires.held c.requires.rest
    (does_some c.args.machine.now c.make_list.new.machine _ c.in_ok-tail.field-0 c.in-Some.tail c.in_ok-tail.ensures c.in-Some.is) c.drop_operands-2.ensures c.in_ok-push_operand.ensures)
    c.keep_record.ensures
