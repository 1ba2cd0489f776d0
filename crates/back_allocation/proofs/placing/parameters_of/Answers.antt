use Rattle.back_allocation.specs.Places.{place_at, enters_in}
use Rattle.back_allocation.proofs.PlacesOfSpots.{parameter_listed}
use Rattle.back_allocation.proofs.placing.parameters_of.Goals as goal

pub loop-register-preserved : goal.loop-register-preserved
loop-register-preserved c =
    parameter_listed (place_at c.args.places.now) (enters_in c.args.parts.now) c.loop-register.register _ _ _ c.in_ok-push.ensures.ok c.parameter_place.ensures
    c.loop-register.invariant
