-- The variables are made above the frame that drops them.
use Rattle.eval_control.proofs.LetEntered.{let_entered}
use Rattle.eval_control.proofs.let_bodies.enter_let.Goals as goal

pub returns : goal.returns
returns c =
    let_entered c.args.machine.now c.push_frame.new.self c.add_bindings.new.self c.drop_operands.new.self c.evaluate.new.self c.args.list.now c.args.count
    c.held_operands-held.result c.slot_count-before.result c.args.body.now c.args.situation
    c.held_operands-held.ensures c.slot_count-before.ensures c.in_ok-push_frame.ensures c.in_ok-add_bindings.ensures c.drop_operands.ensures c.evaluate.ensures
