use Rattle.std.proofs.Common.{◌+◌, Bool, List, Option, [], ◌∷◌, ◌++◌, length, sym, ap, subst, ◌∙◌, arith}
use Rattle.back_liveness.specs.declared.step.Interval.{Interval}
use Rattle.back_liveness.specs.Points.{HaveLives, HaveParts, HaveCrossings}
use Rattle.back_liveness.proofs.Around.{there_below}
use Rattle.back_liveness.proofs.Covering.{lives_cover, count_more, lives_more, parts_more, crossings_more}
use Rattle.back_liveness.specs.Liveness.{OnlyCrossed, AreTight}
use Rattle.back_liveness.specs.Points.{EndBy}
use Rattle.back_liveness.proofs.Crossing.{only_more, ends_more}
use Rattle.back_liveness.proofs.Tight.{tight_more}
use Rattle.back_liveness.proofs.intervals.lives_with.Goals as goal

pub returns-clause-covers : goal.returns-clause-covers
returns-clause-covers c =
    let found = c.loop-register.intervals in
    let latest = c.args.heads.now.latest.items in
    lives_cover c.args.steps.now c.args.barriers.now c.args.heads.now.earliest.items latest found c.loop-register.parts c.loop-register.crossed c.requires.heads c.requires.nested
    (subst (λ n. HaveLives c.args.steps.now latest n found) (sym c.loop-register.invariant.count) c.loop-register.invariant.lives)
    (c.loop-register.invariant.count_parts ∙ sym c.loop-register.invariant.count)
    (subst (λ n. HaveParts c.args.steps.now latest n found c.loop-register.parts) (sym c.loop-register.invariant.count) c.loop-register.invariant.own)
    (subst (λ n. HaveCrossings c.args.steps.now c.args.barriers.now latest n c.loop-register.crossed) (sym c.loop-register.invariant.count)
    c.loop-register.invariant.crossings)

pub loop-register-preserved : goal.loop-register-preserved
loop-register-preserved c =
    let known = c.loop-register.invariant in
    let steps = c.args.steps.now in
    let latest = c.args.heads.now.latest.items in
    let barriers = c.args.barriers.now in
    let found = c.in_ok-found.found in
    let is = c.in_ok-found.ensures in
    record {
      count = ap length c.in_ok-push.ensures.ok ∙ count_more c.loop-register.intervals found.interval c.loop-register.register known.count;
      count_parts = ap length c.in_ok-push-2.ensures.ok ∙ count_more c.loop-register.parts found.parts c.loop-register.register known.count_parts;
      count_crossed = ap length c.in_ok-push-3.ensures.ok ∙ count_more c.loop-register.crossed found.crossed c.loop-register.register known.count_crossed;
      lives =
          subst (HaveLives steps latest (c.loop-register.register + 1)) (sym c.in_ok-push.ensures.ok)
          (lives_more steps latest c.loop-register.register c.loop-register.intervals found.interval known.count known.lives
          is.ahead (λ line s e w. is.points (line + 1)
          (c.requires.points.written c.loop-register.register line s (omega arith) (there_below steps line s e) e w)));
      own =
          subst (λ (ls : List (Option Interval)). HaveParts steps latest (c.loop-register.register + 1) ls c.push-in-loop-register.new.self) (sym c.in_ok-push.ensures.ok)
          (subst (λ (ps : List (List Interval)). HaveParts steps latest (c.loop-register.register + 1) (c.loop-register.intervals ++ found.interval ∷ []) ps) (sym c.in_ok-push-2.ensures.ok)
          (parts_more steps latest c.loop-register.register c.loop-register.intervals found.interval c.loop-register.parts found.parts known.count known.count_parts known.own is.parts));
      tight =
          subst (AreTight steps) (sym c.in_ok-push.ensures.ok)
          (tight_more steps c.loop-register.register c.loop-register.intervals found.interval known.count known.tight is.tight);
      ends =
          subst (EndBy (length steps)) (sym c.in_ok-push.ensures.ok)
          (ends_more (length steps) c.loop-register.register c.loop-register.intervals found.interval known.count known.ends is.ends);
      only =
          subst (λ (ls : List (Option Interval)). OnlyCrossed barriers ls c.push-in-loop-register-2.new.self) (sym c.in_ok-push.ensures.ok)
          (subst (λ (bs : List Bool). OnlyCrossed barriers (c.loop-register.intervals ++ found.interval ∷ []) bs) (sym c.in_ok-push-3.ensures.ok)
          (only_more barriers c.loop-register.register c.loop-register.intervals found.interval c.loop-register.crossed found.crossed known.count
          known.count_crossed known.only is.only));
      crossings =
          subst (HaveCrossings steps barriers latest (c.loop-register.register + 1)) (sym c.in_ok-push-3.ensures.ok)
          (crossings_more steps barriers latest c.loop-register.register c.loop-register.crossed found.crossed known.count_crossed
          known.crossings is.crossed);
    }
