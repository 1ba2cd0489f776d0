use Rattle.std.proofs.Common.{◌≡◌, refl, inl, inr, subst}
use Rattle.back_liveness.specs.declared.step.Interval.{Interval}
use Rattle.back_allocation.specs.Slots.{for_crossed, for_other}
use Rattle.back_allocation.proofs.Wanted.{asked_own}
use Rattle.back_allocation.proofs.wishes.wish_of.Goals as goal

pub returns-then-is_crossed-clause-asked : goal.returns-then-is_crossed-clause-asked
returns-then-is_crossed-clause-asked c i e = for_crossed c.if-is_crossed.true

pub returns-then-register-parameters-clause-asked : goal.returns-then-register-parameters-clause-asked
returns-then-register-parameters-clause-asked c i e =
    let same : c.in-Some.interval ≡ i = cc (e, c.in-Some.is) in
    asked_own c.args.parameters c.args.register c.args.owner c.args.register i c.args.is_crossed c.own_wish.result
    (subst (λ (k : Interval). k.from ≡ 0) same c.if-interval-eq0.true) (c.if-register-parameters.true, inl refl) c.own_wish.ensures.register
    c.own_wish.ensures.slot

pub returns-then-owner-parameters-clause-asked : goal.returns-then-owner-parameters-clause-asked
returns-then-owner-parameters-clause-asked c i e =
    let same : c.in-Some.interval ≡ i = cc (e, c.in-Some.is) in
    let w = c.own_wish-then-owner-parameters in
    asked_own c.args.parameters c.args.register c.args.owner c.args.owner i c.args.is_crossed w.result
    (subst (λ (k : Interval). k.from ≡ 0) same c.if-interval-eq0-2.true) (c.if-owner-parameters.true, inr refl) w.ensures.register w.ensures.slot

pub returns-else-interval-eq0-2-clause-asked : goal.returns-else-interval-eq0-2-clause-asked
returns-else-interval-eq0-2-clause-asked c i e = for_other
