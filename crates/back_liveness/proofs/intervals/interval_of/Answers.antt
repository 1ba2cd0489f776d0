use Rattle.std.proofs.Common.{subst}
use Rattle.back_liveness.specs.Liveness.{IsWithin}
use Rattle.back_liveness.proofs.Covering.{none_alive}
use Rattle.back_liveness.proofs.intervals.interval_of.Goals as goal

pub life_of-requires-clause-points : goal.life_of-requires-clause-points
life_of-requires-clause-points c line s e r = subst (λ i. IsWithin i line) c.in-Some.is (c.requires.points line s e r)

pub returns-in-None-clause-ahead : goal.returns-in-None-clause-ahead
returns-in-None-clause-ahead c line h =
    none_alive c.args.steps.now c.args.heads.now.earliest.items c.args.heads.now.latest.items c.args.register c.requires.heads
    (λ k s e r. subst (λ i. IsWithin i k) c.in-None.is (c.requires.points k s e r)) line h

pub returns-in-None-clause-crossed : goal.returns-in-None-clause-crossed
returns-in-None-clause-crossed c line h =
    absurd (none_alive c.args.steps.now c.args.heads.now.earliest.items c.args.heads.now.latest.items c.args.register c.requires.heads
    (λ k s e r. subst (λ i. IsWithin i k) c.in-None.is (c.requires.points k s e r)) line h)
