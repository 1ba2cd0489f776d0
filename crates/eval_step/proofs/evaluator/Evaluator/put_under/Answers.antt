-- The table has the value.
use Rattle.std.proofs.lemmas.Result.{on_ok_weaker}
use Rattle.eval_step.proofs.Naming.{global_put, dynamic_put}
use Rattle.eval_step.proofs.evaluator.Evaluator.put_under.Goals as goal

pub returns-in-Globals : goal.returns-in-Globals
returns-in-Globals c = rw c.in-Globals.is (on_ok_weaker c.set.result (global_put c.args.self.now c.set.new.self c.args.name.0 c.args.word) c.set.ensures.ok)

pub returns-in-Dynamics : goal.returns-in-Dynamics
returns-in-Dynamics c = rw c.in-Dynamics.is (on_ok_weaker c.set-in-Dynamics.result (dynamic_put c.args.self.now c.set-in-Dynamics.new.self c.args.name.0 c.args.word) c.set-in-Dynamics.ensures.ok)
