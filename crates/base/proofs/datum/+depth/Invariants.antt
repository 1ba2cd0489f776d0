-- The sizes of the data fall; a loop has the depth of what is passed, and the rest is still to be measured.
use Rattle.std.proofs.Common.{◌≡◌, ◌≤◌, max, min, drop}
use Rattle.base.specs.Data.{items_of, item_size, items_size, tail_size}
use Rattle.base.specs.model.DataView.{tail_of}
use Rattle.base.specs.DataMeasures.{depths_of}
use Rattle.base.proofs.datum.+depth.Given as goal

abbrev pub decreases-Datum::depth : goal.decreases-Datum::depth
decreases-Datum::depth l = item_size l.self.now

abbrev pub decreases-measures::depths : goal.decreases-measures::depths
decreases-measures::depths l = items_size (items_of l.items.now)

abbrev pub decreases-measures::tail_depth : goal.decreases-measures::tail_depth
decreases-measures::tail_depth l = tail_size (tail_of l.tail.now)

abbrev pub invariant-measures::depths-loop-at : goal.invariant-measures::depths-loop-at
invariant-measures::depths-loop-at l =
    record {
      fits : l.deepest ≤ 4294967295;
      counted : min (max l.deepest (depths_of (items_of (drop l.at l.items)))) 4294967295 ≡ min (depths_of (items_of l.items)) 4294967295;
    }
