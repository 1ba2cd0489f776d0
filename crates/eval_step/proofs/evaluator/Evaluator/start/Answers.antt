-- The main forms wait, and nothing else is there.
use Rattle.std.proofs.Common.{refl}
use Rattle.eval_step.proofs.Outset.{started, first_of}
use Rattle.eval_step.proofs.evaluator.Evaluator.start.Goals as goal

pub returns : goal.returns
returns c =
    started c.args.given c.args.store c.args.level _
    (first_of c.args.given c.args.store c.args.level _ _ c.new-frames.result.items c.in_ok-push.ensures.items c.new-frames.ensures.items refl refl refl c.new-2.ensures.items refl)
    c.new-3.ensures c.new-4.ensures c.new-5.ensures.items refl c.new-6.ensures.items refl
