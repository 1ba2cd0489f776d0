use Rattle.std.proofs.Common.{◌≡◌, ◌<◌, ℕ, length, subst, arith, ◌∙◌}
use Rattle.back_allocation.specs.Places.{place_in, place_at}
use Rattle.back_allocation.proofs.Naming.{length_pushed}
use Rattle.back_allocation.proofs.PlacesOfSpots.{places_more, all_places}
use Rattle.back_allocation.proofs.placing.places_of.Goals as goal

pub loop-at-preserved : goal.loop-at-preserved
loop-at-preserved c = record {
  count = length_pushed c.loop-at.places _ _ c.loop-at.at c.loop-at.invariant.count c.in_ok-push.ensures.ok;
  each =
      places_more (place_in c.args.constants.now c.args.spots.now) c.loop-at.places _ c.loop-at.at _ c.loop-at.invariant.count c.loop-at.invariant.each
      c.in_ok-push.ensures.ok c.place_of_name.ensures;
}

pub returns : goal.returns
returns c =
    let e : c.loop-at.at ≡ length c.args.spots.now = omega arith in
    all_places c.args.constants.now c.args.spots.now c.loop-at.places (c.loop-at.invariant.count ∙ e) c.requires.long
    (subst (λ n. (v : ℕ) → v < n → place_at c.loop-at.places v ≡ place_in c.args.constants.now c.args.spots.now v) e c.loop-at.invariant.each)
