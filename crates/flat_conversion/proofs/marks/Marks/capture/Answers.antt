-- A part more; and at the end all.
use Rattle.std.proofs.Common.{arith}
use Rattle.flat_conversion.proofs.Marking.{unmarked, part_captured, all_captured}
use Rattle.flat_conversion.proofs.marks.Marks.capture.Goals as goal

pub loop-at-init : goal.loop-at-init
loop-at-init c = unmarked c.args.self.now

pub loop-at-preserved : goal.loop-at-preserved
loop-at-preserved c = part_captured c.args.parts.now c.loop-at.at c.in-Some.part.now _ _ _ c.in-Some.ensures c.loop-at.invariant c.in_ok-capture_one.ensures

pub returns : goal.returns
returns c = all_captured c.args.parts.now c.loop-at.at c.args.self.now c.loop-at.self (omega (arith, c.loop-at-test.false, c.len-at-end.ensures)) c.loop-at.invariant
