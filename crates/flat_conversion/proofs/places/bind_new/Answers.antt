-- A variable more, in the slot before.
use Rattle.std.proofs.Common.{ap, ◌∙◌, ◌++◌, ◌∷◌, ◌-◌, ◌<◌, arith}
use Rattle.flat_conversion.specs.NewVariables.{known_in_slot}
use Rattle.flat_conversion.proofs.Captured.{slot_before}
use Rattle.flat_conversion.proofs.places.bind_new.Goals as goal

pub loop-at-preserved : goal.loop-at-preserved
loop-at-preserved c =
    let x = c.in-Some.new.now in
    let k = c.loop-at.slot in
    let some : 0 < c.loop-at.slot = omega (arith, c.loop-at.invariant.slot, c.loop-at-test.true, c.requires) in
    record {
      slot = omega (arith, c.loop-at.invariant.slot, c.loop-at-test.true, c.requires);
      bound =
          c.in_ok-bind.ensures.ok
          ∙ ap (λ y. (x.var, y) ∷ c.loop-at.variables) c.in_slot.ensures
          ∙ ap (λ ys. (x.var, known_in_slot x (k - 1)) ∷ ys) c.loop-at.invariant.bound
          ∙ ap (λ ys. ys ++ c.args.variables.now) (slot_before c.args.news.now c.loop-at.at k x c.loop-at-test.true some c.in-Some.ensures);
    }
