-- A variable more; and at the end all.
use Rattle.std.proofs.Common.{arith}
use Rattle.flat_conversion.proofs.Marking.{none_forgotten, one_forgotten, all_forgotten}
use Rattle.flat_conversion.proofs.marks.Marks.forget.Goals as goal

pub loop-at-init : goal.loop-at-init
loop-at-init c = none_forgotten c.args.self.now

pub loop-at-preserved : goal.loop-at-preserved
loop-at-preserved c =
    one_forgotten c.args.variables.now c.loop-at.at c.in-Some.var.now c.args.self.now c.loop-at.self c.remove.new.self c.remove-in-loop-at.new.self c.in-Some.ensures c.loop-at.invariant c.remove.ensures.updates c.remove-in-loop-at.ensures.updates

pub returns : goal.returns
returns c = all_forgotten c.args.variables.now c.loop-at.at c.args.self.now c.loop-at.self (omega (arith, c.loop-at-test.false, c.len-at-end.ensures)) c.loop-at.invariant
