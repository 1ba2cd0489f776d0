-- The words are asked for, the arguments counted, and a frame gives them back.
use Rattle.std.proofs.Common.{arith}
use Rattle.eval_application.proofs.Entries.{stack_given, stack_filled}
use Rattle.eval_application.proofs.entering.take_stack.Goals as goal

pub returns-then-not-branch : goal.returns-then-not-branch
returns-then-not-branch c = stack_filled c.args.machine.now c.ask.new.self _ c.in-Some.all _ (omega (arith, c.in-Some.ensures)) c.in_ok-ask.ensures c.if-not-branch.true

pub returns : goal.returns
returns c =
    stack_given c.args.machine.now c.ask.new.self c.charge.new.self c.push_frame.new.self _ c.in-Some.all c.args.count c.stack-before.result _ (omega (arith, c.in-Some.ensures)) c.in_ok-ask.ensures c.if-not-branch.false c.in_ok-charge.ensures c.in_ok-push_frame.ensures.same c.in_ok-push_frame.ensures.frames
    (λ names b. c.stack-before.ensures names b)
