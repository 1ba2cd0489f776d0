use Rattle.std.proofs.Common.{Some}
use Rattle.back_liveness.proofs.Lists.{ends_set}
use Rattle.back_liveness.proofs.points.add_point.Goals as goal

pub returns-then-register-hulls-clause-ends : goal.returns-then-register-hulls-clause-ends
returns-then-register-hulls-clause-ends c n h all =
    ends_set n c.args.hulls.now c.args.register (Some c.widened-more.result) c.if-register-hulls.true (c.widened-more.ensures.ends n h (all c.args.register)) all
