-- The answer is told once the operands have gone.
use Rattle.std.proofs.Common.{refl}
use Rattle.eval_primitives.specs.Groups.{stream_of}
use Rattle.eval_state.specs.declared.machine.Machine.{Machine}
use Rattle.eval_step.specs.declared.evaluator.Evaluator.{Evaluator}
use Rattle.eval_step.proofs.Streaming.{streamed_told_ok}
use Rattle.eval_step.proofs.evaluator.Evaluator.stream.Goals as goal

pub returns : goal.returns
returns c =
    let mid : Evaluator = c.stream_answer.new.self in
    let last : Machine = c.tell.new.machine in
    streamed_told_ok c.tell.result c.args.self.now mid (record mid { machine = last }) c.drop_operands.new.self (stream_of c.args.which) c.args.count c.args.level c.args.around
    c.in_ok-answer.answer c.in_ok-answer.ensures c.drop_operands.ensures refl c.tell.ensures
