-- A place for each parameter that was looked at.
use Rattle.std.proofs.Common.{◌≡◌}
use Rattle.back_allocation.specs.Allocated.{parameter_places}
use Rattle.back_allocation.specs.Places.{place_at, enters_in}
use Rattle.back_allocation.proofs.placing.parameters_of.Given as goal

abbrev pub invariant-loop-register : goal.invariant-loop-register
invariant-loop-register l = l.list ≡ parameter_places (place_at l.places) (enters_in l.parts) 0 l.register
