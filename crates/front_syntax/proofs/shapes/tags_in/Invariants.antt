-- The tags that were seen stand in front of the rest.
use Rattle.std.proofs.Common.{◌≡◌, ◌++◌, drop}
use Rattle.front_profile.specs.Shapes.{tags_in}
use Rattle.front_syntax.proofs.shapes.tags_in.Given as goal

abbrev pub invariant-loop-item : goal.invariant-loop-item
invariant-loop-item l = l.tags ++ tags_in (drop l.item-index l.items) ≡ tags_in l.items
