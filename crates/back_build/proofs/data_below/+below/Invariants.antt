-- The depth falls; all are named where those that are left are.
use Rattle.std.proofs.Common.{◌≡◌, drop}
use Rattle.base.specs.Data.{items_of}
use Rattle.back_build.specs.Named.{are_named}
use Rattle.back_build.proofs.data_below.+below.Given as goal

abbrev pub decreases-is_below : goal.decreases-is_below
decreases-is_below l = l.depth

abbrev pub decreases-are_below : goal.decreases-are_below
decreases-are_below l = l.depth

abbrev pub decreases-is_tail_below : goal.decreases-is_tail_below
decreases-is_tail_below l = l.depth

abbrev pub invariant-are_below-loop-at : goal.invariant-are_below-loop-at
invariant-are_below-loop-at l = are_named l.count (items_of (drop l.at l.items)) ≡ are_named l.count (items_of l.items)
