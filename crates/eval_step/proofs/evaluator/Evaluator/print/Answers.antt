-- A byte more.
use Rattle.std.proofs.Common.{refl}
use Rattle.eval_step.proofs.Streaming.{printed_more}
use Rattle.eval_step.proofs.evaluator.Evaluator.print.Goals as goal

pub returns : goal.returns
returns c = printed_more c.args.self.now _ c.args.byte c.in_ok-push.ensures.items refl
