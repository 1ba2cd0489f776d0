-- There is a frame, or the machine has ended.
use Rattle.std.proofs.Common.{subst}
use Rattle.eval_step.specs.Stepped.{IsTopTaken}
use Rattle.eval_step.proofs.Stepping.{ended, left}
use Rattle.eval_step.proofs.evaluator.Evaluator.leave.Goals as goal

pub returns-in_default : goal.returns-in_default
returns-in_default c =
    ended c.args.self.now c.take_top.new.self c.args.outcome c.requires
    (subst (IsTopTaken c.args.self.now c.take_top.new.self) c.in_default.is c.take_top.ensures)

pub returns : goal.returns
returns c =
    left c.args.self.now c.take_top.new.self c.come_out.new.self c.args.outcome c.in-Some.frame c.requires
    (subst (IsTopTaken c.args.self.now c.take_top.new.self) c.in-Some.is c.take_top.ensures) c.in_ok-come_out.ensures
