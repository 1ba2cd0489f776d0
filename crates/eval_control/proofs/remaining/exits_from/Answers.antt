-- One exit after another is looked at.
use Rattle.std.proofs.Common.{[], sym, ◌∙◌}
use Rattle.eval_control.proofs.Looking.{makes_one}
use Rattle.eval_control.proofs.Reached.{reached, not_this, none_reached}
use Rattle.eval_control.proofs.remaining.exits_from.Goals as goal

pub unreachable-requires : goal.unreachable-requires
unreachable-requires c = makes_one [] c.args.machine.now.frames.items c.loop-frame.left c.in-Some.behind c.in-Some.frame.now c.in-Some.ensures (c.in_default-made_by.ensures [])

pub returns-then-exit-number : goal.returns-then-exit-number
returns-then-exit-number c = λ names.
    reached names c.args.machine.now.frames.items c.loop-frame.left c.in-Some.behind c.args.number c.in-Some.frame.now c.in-Some-made_by.exit c.in-Some.ensures (c.in-Some-made_by.ensures names) c.if-exit-number.true
    ∙ sym (c.loop-frame.invariant names)

pub loop-frame-preserved : goal.loop-frame-preserved
loop-frame-preserved c = λ names.
    c.loop-frame.invariant names
    ∙ not_this names c.args.machine.now.frames.items c.loop-frame.left c.in-Some.behind c.args.number c.in-Some.frame.now c.in-Some-made_by.exit c.in-Some.ensures (c.in-Some-made_by.ensures names) c.if-exit-number.false

pub returns : goal.returns
returns c = λ names. none_reached names c.args.machine.now.frames.items c.loop-frame.left c.args.number c.in_default.ensures ∙ sym (c.loop-frame.invariant names)
