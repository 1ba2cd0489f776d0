-- The body is evaluated above the frame that has the bindings.
use Rattle.std.proofs.lemmas.Result.{on_ok_weaker}
use Rattle.eval_control.proofs.DynamicEntered.{dynamic_entered}
use Rattle.eval_control.proofs.dynamic_bodies.dynamic_body.Goals as goal

pub returns : goal.returns
returns c =
    on_ok_weaker c.enter.result
    (dynamic_entered c.args.machine.now c.add_values.new.machine c.drop_operands.new.self c.enter.new.self c.args.list c.args.count c.held_operands-held.result
    c.variable_count-first.result c.in_ok-link.link c.args.body.now c.args.situation c.inside_bindings.result
    c.held_operands-held.ensures c.variable_count-first.ensures c.in_ok-add_values.ensures c.drop_operands.ensures c.in_ok-link.ensures
    c.inside_bindings.ensures)
    c.enter.ensures
