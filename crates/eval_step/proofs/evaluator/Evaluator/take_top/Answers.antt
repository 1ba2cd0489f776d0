-- Where there is none, there are no frames.
use Rattle.std.proofs.Common.{refl}
use Rattle.eval_step.proofs.Stepping.{top_is}
use Rattle.eval_step.proofs.evaluator.Evaluator.take_top.Goals as goal

pub returns : goal.returns
returns c =
    let e = c.args.self.now in
    top_is e (record e { machine = record e.machine { frames = c.pop.new.self } }) c.pop.result refl c.pop.ensures.items
    e.machine.frames.len c.pop.new.self.len e.machine.frames.ok.0 c.pop.new.self.ok.0 c.pop.ensures.cases
