-- What was found stands in front of what the rest gives.
use Rattle.std.proofs.Common.{◌≡◌, drop}
use Rattle.front_profile.specs.ClassShapes.{each_super}
use Rattle.front_syntax.specs.Behind.{all_behind}
use Rattle.front_syntax.specs.ClassDefinitions.{view_supers}
use Rattle.front_syntax.proofs.slots.each_super.Given as goal

abbrev pub invariant-loop-item : goal.invariant-loop-item
invariant-loop-item l = all_behind (view_supers l.supers) (each_super (drop l.item-index l.items)) ≡ each_super l.items
