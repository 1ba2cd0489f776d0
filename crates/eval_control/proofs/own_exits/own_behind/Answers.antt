-- One frame after another is passed.
use Rattle.std.proofs.Common.{arith}
use Rattle.eval_control.proofs.OwnExits.{found_there, passing_goes, passing_ends}
use Rattle.eval_control.proofs.own_exits.own_behind.Goals as goal

pub returns-then-more-eq0 : goal.returns-then-more-eq0
returns-then-more-eq0 c =
    found_there c.args.machine.now.frames.items c.args.link c.args.others c.loop-frame.left c.in-Some.behind c.loop-frame.more c.in-Some.frame.now
    c.own_number.result
    (omega arith) c.loop-frame.invariant c.in-Some.ensures c.own_number.ensures

pub loop-frame-preserved : goal.loop-frame-preserved
loop-frame-preserved c =
    passing_goes c.args.machine.now.frames.items c.args.link c.args.others c.loop-frame.left c.in-Some.behind c.loop-frame.more _
    (omega arith) c.loop-frame.invariant c.in-Some.ensures

pub returns : goal.returns
returns c = passing_ends c.args.machine.now.frames.items c.args.link c.args.others c.loop-frame.left c.loop-frame.more c.loop-frame.invariant c.in_default.ensures
