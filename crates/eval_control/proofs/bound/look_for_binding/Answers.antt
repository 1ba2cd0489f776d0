-- One frame after another.
use Rattle.std.proofs.Common.{sym, ◌∙◌, arith}
use Rattle.eval_control.proofs.BindingsFound.{frames_begin, frames_go, frames_found, frames_end, some_there, none_there}
use Rattle.eval_control.proofs.bound.look_for_binding.Goals as goal

pub loop-frame-init : goal.loop-frame-init
loop-frame-init c names s = frames_begin names c.args.name.0 c.args.machine.now.frames.items c.args.link

pub returns-then-is_some : goal.returns-then-is_some
returns-then-is_some c names s =
    let (v, some) = some_there c.in_ok-here.here.variable (sym c.is_some.ensures ∙ c.if-is_some.true) in
    frames_found names c.args.name.0 c.args.machine.now.frames.items c.args.link c.loop-frame.left c.in-Some.behind c.loop-frame.passed
    c.in-Some-checked_add.more v c.in-Some.frame.now c.in_ok-here.here
    (omega arith) some (c.loop-frame.invariant names s) c.in-Some.ensures (c.in_ok-here.ensures names s)

pub loop-frame-preserved : goal.loop-frame-preserved
loop-frame-preserved c names s =
    frames_go names c.args.name.0 c.args.machine.now.frames.items c.args.link c.loop-frame.left c.in-Some.behind c.loop-frame.passed
    c.in-Some-checked_add.more c.in-Some.frame.now c.in_ok-here.here
    (omega arith) (none_there c.in_ok-here.here.variable (sym c.is_some.ensures ∙ c.if-is_some.false)) (c.loop-frame.invariant names s) c.in-Some.ensures
    (c.in_ok-here.ensures names s)

pub returns : goal.returns
returns c names s =
    frames_end names c.args.name.0 c.args.machine.now.frames.items c.args.link c.loop-frame.left c.loop-frame.passed
    (c.loop-frame.invariant names s) c.in_default.ensures
