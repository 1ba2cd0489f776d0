-- The register is left as it is where the rest of the arguments leave it so.
use Rattle.std.proofs.Common.{◌≡◌, ◌≤◌, ◌-◌}
use Rattle.back_places.specs.declared.place.Place.TheVariants.{InRegister}
use Rattle.back_emit.specs.InOrder.{is_unwritten}
use Rattle.back_emit.proofs.in_order.is_register_unwritten.Given as goal

abbrev pub invariant-loop-i : goal.invariant-loop-i
invariant-loop-i l =
    (l.i ≤ 14) × (is_unwritten l.i (l.count - l.i) (InRegister l.register) ≡ is_unwritten 0 l.count (InRegister l.register))
