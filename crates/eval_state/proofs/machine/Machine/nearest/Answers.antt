-- One frame after another is looked at.
use Rattle.std.proofs.Common.{sym, ◌∙◌}
use Rattle.eval_state.proofs.Nearest.{found, one_more}
use Rattle.eval_state.proofs.machine.Machine.nearest.Goals as goal

pub returns-in-Some : goal.returns-in-Some
returns-in-Some c =
    found c.args.kind c.args.self.now.frames.items c.loop-left.left c.args.link c.in-Some.behind c.min.result c.index-frame.result.now
    c.loop-left-test.true c.index-frame.ensures (sym c.in-Some.is ∙ c.next.ensures) c.min.ensures c.loop-left.invariant

pub loop-left-preserved : goal.loop-left-preserved
loop-left-preserved c =
    one_more c.args.kind c.args.self.now.frames.items c.loop-left.left c.args.link c.index-frame.result.now
    c.loop-left-test.true c.index-frame.ensures (sym c.in-None.is ∙ c.next.ensures) c.loop-left.invariant
