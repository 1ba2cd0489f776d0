-- One that takes no arguments has some.
use Rattle.std.proofs.Common.{◌-◌, length, length-drop, arith}
use Rattle.eval_state.specs.Frames.{last_of}
use Rattle.eval_step.proofs.Streaming.{given_some}
use Rattle.eval_step.proofs.evaluator.Evaluator.stream_answer.Goals as goal

pub returns-else-held_operands-eq0 : goal.returns-else-held_operands-eq0
returns-else-held_operands-eq0 c =
    given_some c.args.self.now c.args.which (last_of c.args.count c.args.self.now.machine.operands.items)
    (omega (arith, c.held_operands.ensures, c.if-held_operands-eq0.false, length-drop (length c.args.self.now.machine.operands.items - c.args.count) c.args.self.now.machine.operands.items))
    c.in_default.not-PutChar
