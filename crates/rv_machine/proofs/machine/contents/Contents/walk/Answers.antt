use Rattle.std.proofs.Common.{true, false, arith}
use Rattle.rv_machine.specs.Held.{standing}
use Rattle.rv_machine.proofs.Flows.{goes_so}
use Rattle.rv_machine.proofs.Turns.{walks-none, walks-on, walks-as}
use Rattle.rv_machine.proofs.machine.contents.Contents.walk.Goals as goal

pub loop-place-init : goal.loop-place-init
loop-place-init c = record {
  room = c.requires;
  ahead = omega (arith, c.from.ensures);
  left = omega (arith, c.from.ensures);
  within = c.stretch_end-end.ensures.last;
  rows = c.stretch_end-end.ensures.rows;
  bounded = c.stretch_end-end.ensures.bounded;
  walks = walks-as 0 _ _ _ (omega (arith, c.from.ensures)) (walks-none (standing c.args.from c.args.self.now));
}

pub overflow_add-place : goal.overflow_add-place
overflow_add-place c = record { fits = omega (arith, c.loop-place-test.true, c.loop-place.invariant.bounded) }

pub overflow_add-place-else-taken : goal.overflow_add-place-else-taken
overflow_add-place-else-taken c = record { fits = omega (arith, c.loop-place-test.true, c.loop-place.invariant.bounded) }

pub loop-place-preserved-in-On : goal.loop-place-preserved-in-On
loop-place-preserved-in-On c =
    let kept = c.loop-place.invariant in
    record {
      room = kept.room;
      ahead = omega (arith, c.loop-place-test.true, kept.within);
      left = omega (arith, kept.left);
      within = kept.within;
      rows = omega (arith, kept.rows, c.follow.ensures.rows);
      bounded = kept.bounded;
      walks = walks-as _ _ _ _ (omega (arith, c.loop-place-test.true, kept.within, kept.left))
          (walks-on _ _ (standing c.loop-place.place c.loop-place.self) _ kept.walks c.in-On.ensures.goes);
    }

pub loop-place-preserved : goal.loop-place-preserved
loop-place-preserved c =
    let kept = c.loop-place.invariant in
    record {
      room = kept.room;
      ahead = omega (arith, c.loop-place-test.true, kept.within);
      left = omega (arith, kept.left);
      within = kept.within;
      rows = omega (arith, kept.rows, c.follow.ensures.rows);
      bounded = kept.bounded;
      walks = walks-as _ _ _ _ (omega (arith, c.loop-place-test.true, kept.within, kept.left))
          (walks-on _ _ (standing c.loop-place.place c.loop-place.self) _ kept.walks
          (goes_so c.in-Branch.taken false c.loop-place.place c.in-Branch.target c.loop-place.self c.follow.new.self c.if-taken.false c.in-Branch.ensures.goes));
    }

pub loop-place-preserved-then-taken : goal.loop-place-preserved-then-taken
loop-place-preserved-then-taken c =
    let kept = c.loop-place.invariant in
    let here = c.from-then-taken.ensures in
    let there = c.from-then-taken-2.ensures in
    record {
      room = kept.room;
      ahead = omega (arith, c.loop-place-test.true, kept.within);
      left = omega (arith, kept.left, c.loop-place-test.true, kept.within);
      within = c.stretch_end-end-then-taken.ensures.last;
      rows = c.stretch_end-end-then-taken.ensures.rows;
      bounded = c.stretch_end-end-then-taken.ensures.bounded;
      walks = walks-as _ _ _ _ (omega (arith, c.loop-place-test.true, kept.within, kept.left))
          (walks-on _ _ (standing c.loop-place.place c.loop-place.self) _ kept.walks
          (goes_so c.in-Branch.taken true c.loop-place.place c.in-Branch.target c.loop-place.self c.follow.new.self c.if-taken.true c.in-Branch.ensures.goes));
    }
