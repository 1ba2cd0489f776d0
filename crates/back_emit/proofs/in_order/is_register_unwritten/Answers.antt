use Rattle.back_emit.proofs.InOrder.{at_others, unwritten_more}
use Rattle.back_emit.proofs.in_order.is_register_unwritten.Goals as goal

pub returns-then-i-eq14 : goal.returns-then-i-eq14
returns-then-i-eq14 c = at_others c.loop-i.i c.args.count c.args.register c.if-i-eq14.true c.loop-i-test.true c.loop-i.invariant.1

pub loop-i-preserved : goal.loop-i-preserved
loop-i-preserved c =
    unwritten_more c.loop-i.i c.args.count c.args.register c.argument_register.result c.loop-i-test.true c.loop-i.invariant.0 c.if-i-eq14.false
    c.argument_register.ensures.is c.if-argument_register-register.false c.loop-i.invariant.1
