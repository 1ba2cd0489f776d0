-- The machine alone does it.
use Rattle.std.proofs.Common.{refl}
use Rattle.eval_step.proofs.Fed.{computes}
use Rattle.eval_step.proofs.Lifting.{lifted_ok}
use Rattle.eval_step.proofs.evaluator.Evaluator.compute_alone.Goals as goal

pub returns : goal.returns
returns c =
    let e = c.args.self.now in
    computes c.compute.result e (record e { machine = c.compute.new.machine }) c.args.which c.args.which c.args.count c.args.situation refl
    (lifted_ok c.compute.result e (record e { machine = c.compute.new.machine }) _ refl c.compute.ensures)
