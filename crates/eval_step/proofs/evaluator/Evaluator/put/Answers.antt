-- A value that is no stream, and a stream.
use Rattle.std.proofs.Common.{◌∙◌}
use Rattle.eval_step.proofs.Streaming.{put_no_stream}
use Rattle.eval_step.proofs.evaluator.Evaluator.put.Goals as goal

pub returns-in-None : goal.returns-in-None
returns-in-None c = put_no_stream c.args.self.now c.args.stream c.args.word c.is_output.result c.in-None.is c.is_output.ensures

pub put_on-requires : goal.put_on-requires
put_on-requires c = record { is = λ names b. c.is_output.ensures names b ∙ c.in-Some.is }
