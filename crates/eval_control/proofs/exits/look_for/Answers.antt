-- One exit after another is looked at.
use Rattle.std.proofs.Common.{[], sym, ◌∙◌, arith}
use Rattle.eval_control.proofs.Looking.{passed_one, found_one, found_none, makes_one}
use Rattle.eval_control.proofs.exits.look_for.Goals as goal

pub unreachable-requires : goal.unreachable-requires
unreachable-requires c = makes_one [] c.args.machine.now.frames.items c.loop-frame.left c.in-Some.behind c.in-Some.frame.now c.in-Some.ensures (c.in_default-made_by.ensures [])

pub returns-then-meets : goal.returns-then-meets
returns-then-meets c = λ names s. found_one names c.args.sought c.args.machine.now.frames.items c.args.link c.loop-frame.left c.in-Some.behind c.loop-frame.passed c.in-Some-checked_add.more c.in-Some.frame.now c.in-Some-made_by.exit (omega arith) (c.loop-frame.invariant names s) c.in-Some.ensures (c.in-Some-made_by.ensures names) (sym (c.meets.ensures names s) ∙ c.if-meets.true)

pub loop-frame-preserved : goal.loop-frame-preserved
loop-frame-preserved c = λ names s. passed_one names c.args.sought c.args.machine.now.frames.items c.args.link c.loop-frame.left c.in-Some.behind c.loop-frame.passed c.in-Some-checked_add.more c.in-Some.frame.now c.in-Some-made_by.exit (omega arith) (c.loop-frame.invariant names s) c.in-Some.ensures (c.in-Some-made_by.ensures names) (sym (c.meets.ensures names s) ∙ c.if-meets.false)

pub returns : goal.returns
returns c = λ names s. found_none names c.args.sought c.args.machine.now.frames.items c.args.link c.loop-frame.left c.loop-frame.passed (c.loop-frame.invariant names s) c.in_default.ensures
