-- A primitive of the streams, and another one.
use Rattle.std.proofs.Common.{ap, sym, ◌∙◌}
use Rattle.eval_state.specs.Frames.{last_of}
use Rattle.eval_primitives.specs.Groups.{stream_of}
use Rattle.eval_step.specs.Streams.{reads}
use Rattle.eval_step.proofs.Fed.{computes}
use Rattle.eval_step.proofs.evaluator.Evaluator.compute.Goals as goal

pub stream-requires : goal.stream-requires
stream-requires c = λ r. c.requires (ap (λ p. reads p (last_of c.args.count c.args.self.now.machine.operands.items)) (sym c.in-Some.ensures) ∙ r)

pub returns-in-Some : goal.returns-in-Some
returns-in-Some c =
    computes c.stream.result c.args.self.now c.stream.new.self (stream_of c.in-Some.stream) c.args.which c.args.count c.args.situation c.in-Some.ensures
    c.stream.ensures
