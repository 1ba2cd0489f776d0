-- One frame after another is counted.
use Rattle.eval_control.proofs.OwnExits.{count_begins, count_goes, count_ends}
use Rattle.eval_control.proofs.own_exits.own_count.Goals as goal

pub loop-frame-init : goal.loop-frame-init
loop-frame-init c = count_begins c.args.machine.now.frames.items c.args.link

pub loop-frame-preserved : goal.loop-frame-preserved
loop-frame-preserved c =
    count_goes c.args.machine.now.frames.items c.args.link c.loop-frame.left c.in-Some.behind c.loop-frame.count c.in_ok-count.count _ c.in_ok-count.ensures
    c.loop-frame.invariant c.in-Some.ensures

pub returns : goal.returns
returns c = count_ends c.args.machine.now.frames.items c.args.link c.loop-frame.left c.loop-frame.count c.loop-frame.invariant c.in_default.ensures
