-- None of the slots so far has the name.
use Rattle.std.proofs.Common.{◌≡◌, ◌+◌, drop}
use Rattle.std.specs.Option.{option_map}
use Rattle.lang_classes.specs.InheritedClasses.{place_of_slot}
use Rattle.lang_classes.proofs.place.place_of_slot.Given as goal

abbrev pub invariant-loop-at : goal.invariant-loop-at
invariant-loop-at l = place_of_slot l.slots l.name ≡ option_map (λ p. p + l.at) (place_of_slot (drop l.at l.slots) l.name)
