-- The answer is told once the operands have gone.
use Rattle.eval_state.proofs.Carrying.{told_dropped_ok}
use Rattle.eval_state.proofs.computing.compute.Goals as goal

pub returns : goal.returns
returns c =
    told_dropped_ok c.tell_result.result c.args.machine.now c.answer_of-answer.new.machine c.drop_operands.new.self c.tell_result.new.machine c.args.which c.args.count c.args.level c.args.around
    c.answer_of-answer.result c.answer_of-answer.ensures c.drop_operands.ensures c.tell_result.ensures
