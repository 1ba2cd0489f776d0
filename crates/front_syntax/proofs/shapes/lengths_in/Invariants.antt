-- The segments that were seen stand in front of the rest, whose first is so much longer.
use Rattle.std.proofs.Common.{◌≡◌, ◌≤◌, ◌++◌, drop}
use Rattle.front_profile.specs.Shapes.{lengths_in}
use Rattle.front_syntax.specs.Behind.{longer_by}
use Rattle.front_syntax.proofs.shapes.lengths_in.Given as goal

abbrev pub invariant-loop-item : goal.invariant-loop-item
invariant-loop-item l =
    record {
      few : l.length ≤ l.item-index;
      seen : l.lengths ++ longer_by l.length (lengths_in (drop l.item-index l.items)) ≡ lengths_in l.items;
    }
