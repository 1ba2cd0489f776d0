use Rattle.std.proofs.Common.{ℕ, List, subst}
use Rattle.back_liveness.specs.Heads.{IsCounterexample}
use Rattle.back_liveness.proofs.Covering.{if_all_alive}
use Rattle.back_liveness.proofs.Tight.{structured_has_none}
use Rattle.back_liveness.proofs.intervals.live_intervals.Goals as goal

pub returns-then-are_nested-clause-alive : goal.returns-then-are_nested-clause-alive
returns-then-are_nested-clause-alive c =
    if_all_alive c.args.steps.now c.args.barriers.now c.args.registers c.lives.result c.lives.ensures.count c.lives.ensures.covers

pub returns-clause-alive : goal.returns-clause-alive
returns-clause-alive c =
    if_all_alive c.args.steps.now c.args.barriers.now c.args.registers c.whole.result c.whole.ensures.count c.whole.ensures.covers

pub returns-clause-tight : goal.returns-clause-tight
returns-clause-tight c structured =
    let heads = c.in_ok-heads.heads in
    absurd (structured_has_none c.args.steps.now heads.earliest.items heads.latest.items c.in_ok-heads.ensures.heads c.in_ok-heads.ensures.sources structured
    (subst (λ (l : List ℕ). IsCounterexample heads.earliest.items l) c.as_slice-2.ensures.value
    (subst (λ (e : List ℕ). IsCounterexample e c.as_slice-2.result.now) c.as_slice.ensures.value (c.are_nested.ensures.not_nested c.if-are_nested.false))))
