-- The sizes of the data fall; a loop has the size of what is passed, and the rest is still to be counted.
use Rattle.std.proofs.Common.{◌≡◌, ◌≤◌, ◌+◌, min, drop}
use Rattle.base.specs.Data.{items_of, item_size, items_size, tail_size}
use Rattle.base.specs.model.DataView.{tail_of}
use Rattle.base.specs.DataMeasures.{sizes_of}
use Rattle.base.proofs.datum.+size.Given as goal

abbrev pub decreases-Datum::size : goal.decreases-Datum::size
decreases-Datum::size l = item_size l.self.now

abbrev pub decreases-measures::sizes : goal.decreases-measures::sizes
decreases-measures::sizes l = items_size (items_of l.items.now)

abbrev pub decreases-measures::tail_size : goal.decreases-measures::tail_size
decreases-measures::tail_size l = tail_size (tail_of l.tail.now)

abbrev pub invariant-measures::sizes-loop-at : goal.invariant-measures::sizes-loop-at
invariant-measures::sizes-loop-at l =
    record {
      fits : l.total ≤ 18446744073709551615;
      counted : min (l.total + sizes_of (items_of (drop l.at l.items))) 18446744073709551615 ≡ min (sizes_of (items_of l.items)) 18446744073709551615;
    }
