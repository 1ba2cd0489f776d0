-- Counted from the outermost one.
use Rattle.eval_control.proofs.OwnExits.{from_outermost, beyond_outermost}
use Rattle.eval_control.proofs.own_exits.own_exit.Goals as goal

pub returns-then-number-count : goal.returns-then-number-count
returns-then-number-count c =
    from_outermost c.args.machine.now.frames.items c.args.link c.args.number c.in_ok-count.count c.own_behind.result c.in_ok-count.ensures
    c.if-number-count.true c.own_behind.ensures

pub returns-else-number-count : goal.returns-else-number-count
returns-else-number-count c =
    beyond_outermost c.args.machine.now.frames.items c.args.link c.args.number c.in_ok-count.count c.in_ok-count.ensures c.if-number-count.false
