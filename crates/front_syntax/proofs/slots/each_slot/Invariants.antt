-- What was found stands in front of what the rest gives.
use Rattle.std.proofs.Common.{◌≡◌, drop}
use Rattle.front_profile.specs.ClassShapes.{each_slot}
use Rattle.front_syntax.specs.Behind.{all_behind}
use Rattle.front_syntax.specs.ClassDefinitions.{view_slots}
use Rattle.front_syntax.proofs.slots.each_slot.Given as goal

abbrev pub invariant-loop-item : goal.invariant-loop-item
invariant-loop-item l = all_behind (view_slots l.slots) (each_slot l.names (drop l.item-index l.items)) ≡ each_slot l.names l.items
