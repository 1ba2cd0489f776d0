-- The frame waits for a value, or takes any outcome.
use Rattle.std.proofs.Common.{refl}
use Rattle.eval_step.proofs.Lifting.{lifted_ok}
use Rattle.eval_step.proofs.evaluator.Evaluator.come_out.Goals as goal

pub returns-in-None : goal.returns-in-None
returns-in-None c = lifted_ok c.take_outcome.result c.args.self.now (record c.args.self.now { machine = c.take_outcome.new.machine }) _ refl c.take_outcome.ensures
