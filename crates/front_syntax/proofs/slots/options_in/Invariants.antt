-- What was found stands in front of what the rest gives.
use Rattle.std.proofs.Common.{◌≡◌, length}
use Rattle.front_profile.specs.ClassShapes.{slot_options}
use Rattle.front_syntax.specs.Behind.{all_behind}
use Rattle.front_syntax.specs.ClassDefinitions.{view_slot_options}
use Rattle.front_syntax.proofs.slots.options_in.Given as goal

abbrev pub invariant-loop-left : goal.invariant-loop-left
invariant-loop-left l = all_behind (view_slot_options l.options) (slot_options l.names l.left) ≡ slot_options l.names l.items

abbrev pub decreases-loop-left : goal.decreases-loop-left
decreases-loop-left l = length l.left
