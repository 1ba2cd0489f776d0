-- The value is an operand more.
use Rattle.std.proofs.lemmas.Result.{on_ok_weaker}
use Rattle.flat_language.specs.model.View.{dynamics_of}
use Rattle.eval_machine.specs.Step.{dynamics_step}
use Rattle.eval_state.specs.Frames.{dynamics_from}
use Rattle.eval_control.proofs.Framed.{after_operand}
use Rattle.eval_control.proofs.values.dynamic_value.Goals as goal

pub returns : goal.returns
returns c =
    on_ok_weaker c.dynamics.result
    (after_operand c.args.machine.now c.push_operand.new.self c.dynamics.new.machine c.args.count c.in_ok-next.next c.args.word c.args.situation
    (λ names s k vs p fs z. dynamics_step s (dynamics_from c.args.list.now k) vs (dynamics_of c.args.list.now) c.args.body.now p fs z)
    c.in_ok-next.ensures c.in_ok-push_operand.ensures)
    c.dynamics.ensures
