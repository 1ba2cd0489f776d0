-- One more from the end.
use Rattle.std.proofs.Common.{◌≡◌, ◌+◌, ◌-◌, ◌++◌, reverse, take, slice_get, Some, append-nil, sym, ap, ◌∙◌, arith}
use Rattle.lang_dispatch.proofs.Picking.{reverse_turn}
use Rattle.lang_dispatch.proofs.chain.reversed.Goals as goal

pub loop-step-preserved : goal.loop-step-preserved
loop-step-preserved c =
    λ k e.
    let at : c.len.result - 1 - c.loop-step.step ≡ k = omega (arith, c.len.ensures) in
    let here : slice_get c.args.list.now k ≡ Some c.in-Some.procedure.now = rw at at c.in-Some.ensures in
    ap (λ done. done ++ reverse (take k c.args.list.now)) c.in_ok-push.ensures.ok
    ∙ reverse_turn c.loop-step.back c.args.list.now k c.in-Some.procedure.now here
    ∙ c.loop-step.invariant (k + 1) (omega arith)

pub returns : goal.returns
returns c = sym (append-nil c.loop-step.back) ∙ c.loop-step.invariant 0 (omega (arith, c.len-step-end.ensures))
