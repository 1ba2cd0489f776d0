use Rattle.std.proofs.Common.{refl, ◌≡◌, Bool, true, false, ◌≤◌, arith, ℕ, ◌+◌, ◌-◌, List, length, subst, sym}
use Rattle.std.specs.Prelude.{◌⊎◌, slice_index}
use Rattle.back_liveness.specs.Settled.{is_marked, Settled, CrossingsTold, AreAlive}
use Rattle.back_liveness.specs.declared.step.Interval.{Interval}
use Rattle.back_liveness.specs.Heads.{AreFloors, AreRoofs}
use Rattle.back_liveness.specs.Points.{AreParts}
use Rattle.back_liveness.proofs.Closing.{closed_has}
use Rattle.back_liveness.proofs.Parting.{one_has, one_has_not}
use Rattle.back_liveness.proofs.Forwards.{all_told}
use Rattle.back_liveness.proofs.Tight.{point_wanted, tight_life}
use Rattle.back_liveness.proofs.lives.life_of.Goals as goal

pub returns-clause-ahead : goal.returns-clause-ahead
returns-clause-ahead c k h =
    let i = c.loop-life.invariant in
    let low : c.loop-life.line ≤ c.loop-life.life.need = c.loop-life-test.false in
    let told =
    all_told c.args.steps.now c.args.heads.now.earliest.items c.args.heads.now.latest.items c.args.register c.loop-life.marks c.args.points.to
    c.loop-life.line c.loop-life.life c.requires.heads i.settled low c.requires.ends
    (λ j x e r. let p = c.requires.points j x e r in (omega (arith, p.0, i.need), p.1)) k h in
    let l = i.settled.looked k (omega (arith, low, told.0)) told.1 told.2 in
    (l.2, l.3)

pub returns-then-not-crossed-clause-ahead : goal.returns-then-not-crossed-clause-ahead
returns-then-not-crossed-clause-ahead c k h =
    closed_has c.args.steps.now c.args.heads.now.earliest.items c.args.heads.now.latest.items c.as_slice.result.now c.as_slice-2.result.now
    c.args.register c.args.points c.requires.heads
    (subst (λ (f : List ℕ). AreFloors c.args.heads.now.earliest.items f) (sym c.as_slice.ensures.value) c.requires.floors)
    (subst (λ (f : List ℕ). AreRoofs c.args.heads.now.latest.items f) (sym c.as_slice-2.ensures.value) c.requires.roofs)
    (c.is_closed.ensures c.if-is_closed.true) c.requires.points k h

pub returns-then-not-crossed-clause-crossed : goal.returns-then-not-crossed-clause-crossed
returns-then-not-crossed-clause-crossed c k h x low up crosses = told c.crosses-crossed.result refl
  where
    within : (c.args.points.from ≤ k) × (slice_index c.args.heads.now.latest.items k ≤ c.args.points.to)
    within = returns-then-not-crossed-clause-ahead c k h

    told : (b : Bool) → c.crosses-crossed.result ≡ b → c.crosses-crossed.result ≡ true
    told true e = e
    told false e = absurd (c.crosses-crossed.ensures.none e x (omega (arith, within.0, low), omega (arith, within.1, up)) crosses)

pub returns-clause-crossed : goal.returns-clause-crossed
returns-clause-crossed c k h =
    let i = c.loop-life.invariant in
    let low : c.loop-life.line ≤ c.loop-life.life.need = c.loop-life-test.false in
    let told =
    all_told c.args.steps.now c.args.heads.now.earliest.items c.args.heads.now.latest.items c.args.register c.loop-life.marks c.args.points.to
    c.loop-life.line c.loop-life.life c.requires.heads i.settled low c.requires.ends
    (λ j x e r. let p = c.requires.points j x e r in (omega (arith, p.0, i.need), p.1)) k h in
    i.crossings k (omega (arith, low, told.0)) told.1 told.2

pub returns-then-not-crossed-clause-parts : goal.returns-then-not-crossed-clause-parts
returns-then-not-crossed-clause-parts c =
    let i = c.args.points in
    subst (λ (parts : List Interval). AreParts c.args.steps.now c.args.heads.now.latest.items c.args.register i parts) (sym c.in_ok-in_one.ensures)
    (record {
      ahead = λ h line a before back.
          (let within =
          closed_has c.args.steps.now c.args.heads.now.earliest.items c.args.heads.now.latest.items c.as_slice.result.now c.as_slice-2.result.now
          c.args.register i c.requires.heads
          (subst (λ (f : List ℕ). AreFloors c.args.heads.now.earliest.items f) (sym c.as_slice.ensures.value) c.requires.floors)
          (subst (λ (f : List ℕ). AreRoofs c.args.heads.now.latest.items f) (sym c.as_slice-2.ensures.value) c.requires.roofs)
          (c.is_closed.ensures c.if-is_closed.true) c.requires.points h a in
          one_has i line (omega (arith, within.0, before)) (omega (arith, within.1, back)));
      written = λ line s e w there. one_has i (line + 1) there.0 there.1;
      inside = λ line h. one_has_not i line h;
    })

pub returns-clause-parts : goal.returns-clause-parts
returns-clause-parts c =
    let i = c.loop-life.invariant in
    let low : c.loop-life.line ≤ c.loop-life.life.need = c.loop-life-test.false in
    let is = c.in_ok-parts_of.ensures in
    let parts = c.in_ok-parts_of.field-0 in
    record {
      ahead = λ h line a before back.
          (let told =
          all_told c.args.steps.now c.args.heads.now.earliest.items c.args.heads.now.latest.items c.args.register c.loop-life.marks c.args.points.to
          c.loop-life.line c.loop-life.life c.requires.heads i.settled low c.requires.ends
          (λ j x e r. let p = c.requires.points j x e r in (omega (arith, p.0, i.need), p.1)) h a in
          let l = i.settled.looked h (omega (arith, low, told.0)) told.1 told.2 in
          let back2 : line ≤ slice_index c.as_slice-latest.result.now h = subst (λ (ls : List ℕ). line ≤ slice_index ls h) (sym c.as_slice-latest.ensures.value) back in
          is.marked h line l.2 told.1 told.2 before back2 (omega (arith, back, l.3)));
      written = is.written;
      inside = is.within;
    }

pub returns-then-not-crossed-clause-tight : goal.returns-then-not-crossed-clause-tight
returns-then-not-crossed-clause-tight c x end = point_wanted c.args.steps.now c.args.register x (c.requires.only x end)

pub loop-life-init : goal.loop-life-init
loop-life-init c = record {
  settled = record {
    reads = λ k s low up e r. absurd (omega (arith, low, up));
    behind = λ k s low up e f w m. absurd (omega (arith, low, up));
    aside = λ k t s low far up e g m. absurd (omega (arith, low, far, up));
    looked = λ k low up m. absurd (omega (arith, low, up));
  };
  crossings = λ k low up m x from to crosses. absurd (omega (arith, low, up));
  only = λ h. absurd (cc h);
  alive = λ k low up m. absurd (omega (arith, low, up));
  tight = λ x end. point_wanted c.args.steps.now c.args.register x (c.requires.only x end);
  ends = c.requires.ends;
  need = omega arith;
  from = omega arith;
  to = omega arith;
  line = omega arith;
}

pub loop-life-preserved : goal.loop-life-preserved
loop-life-preserved c =
    let steps = c.args.steps.now in
    let v = c.args.register in
    let heads = c.args.heads.now in
    let is = c.loop-life.invariant in
    let high = c.args.points.to in
    let line = c.loop-life.line - 1 in
    let next : c.loop-life.line ≡ line + 1 = omega (arith, c.loop-life-test.true) in
    let test = c.loop-life-test.true in
    let low = is.line in
    let alive = c.look-life.ensures.alive (subst (AreAlive steps v c.loop-life.marks high) next is.alive) in
    let back : List ℕ → Type 0 = λ (l : List ℕ). (k : ℕ) → slice_index l k ≤ length steps in
    let within = subst back (sym c.as_slice-in-loop-life-2.ensures.value) c.requires.heads.within in
    record {
      settled =
          subst (λ (l : List ℕ). Settled steps heads.earliest.items l v c.look-life.new.marks high c.look-life.result line) c.as_slice-in-loop-life-2.ensures.value
          (subst (λ (e : List ℕ). Settled steps e c.as_slice-in-loop-life-2.result.now v c.look-life.new.marks high c.look-life.result line)
          c.as_slice-in-loop-life.ensures.value c.look-life.ensures.settled);
      crossings =
          subst (λ (l : List ℕ). CrossingsTold c.args.barriers.now l v c.look-life.new.marks high c.look-life.result.crossed line)
          c.as_slice-in-loop-life-2.ensures.value c.look-life.ensures.crossings;
      only = c.look-life.ensures.only is.only;
      alive = alive;
      tight =
          tight_life steps heads.earliest.items heads.latest.items v c.loop-life.life c.look-life.result line (is_marked c.look-life.new.marks line)
          c.requires.heads c.requires.sources (omega (arith, c.requires.ends, low, test))
          (alive line (omega arith) (omega (arith, low, test)))
          c.look-life.ensures.tight c.look-life.ensures.from_is
          (subst (λ (l : List ℕ). (c.look-life.result.to ≡ c.loop-life.life.to) ⊎ (c.look-life.result.to ≡ slice_index l line)) c.as_slice-in-loop-life-2.ensures.value c.look-life.ensures.to_is)
          is.tight;
      ends = c.look-life.ensures.ends (length steps) is.ends (within line);
      need = omega (arith, c.look-life.ensures.need, is.need);
      from = omega (arith, c.look-life.ensures.from, is.from);
      to = omega (arith, c.look-life.ensures.to, is.to);
      line = omega (arith, low);
    }
