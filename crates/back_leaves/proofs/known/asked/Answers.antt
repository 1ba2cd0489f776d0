-- One argument more.
use Rattle.std.proofs.Common.{ap, ◌∙◌, ◌++◌, ◌+◌}
use Rattle.back_leaves.specs.Asks.{asked_one}
use Rattle.back_leaves.proofs.Asked.{asked_step}
use Rattle.back_leaves.proofs.known.asked.Goals as goal

pub loop-i-preserved : goal.loop-i-preserved
loop-i-preserved c =
    asked_step c.args.at.now c.args.literals.now _ c.loop-i.made c.ask.new.made c.args.list.now c.args.d c.loop-i.i c.in-Some.form.now
    c.in-Some.ensures c.loop-i.invariant
    (c.in_ok-ask.ensures ∙ ap (λ o. c.loop-i.made ++ asked_one o (c.args.d + c.loop-i.i)) c.known_integer.ensures)
