-- Those that were looked at are in order, or not.
use Rattle.std.proofs.Common.{◌≡◌, map, take}
use Rattle.back_places.specs.Passing.{are_in_order}
use Rattle.back_allocation.specs.Places.{place_at}
use Rattle.back_emit.proofs.in_order.are_in_order.Given as goal

abbrev pub invariant-loop-i : goal.invariant-loop-i
invariant-loop-i l = l.ordered ≡ are_in_order 0 (map (place_at l.places) (take l.i l.arguments))
