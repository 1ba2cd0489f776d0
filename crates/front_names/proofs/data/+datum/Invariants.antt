-- The sizes of the data fall; in a loop it is left to see whether the names of the rest are below.
use Rattle.std.proofs.Common.{◌≡◌, drop}
use Rattle.base.specs.Data.{items_of, item_size, items_size, tail_size}
use Rattle.base.specs.model.DataView.{tail_of}
use Rattle.front_names.specs.Tests.{are_data_below}
use Rattle.front_names.proofs.data.+datum.Given as goal

abbrev pub decreases-is_datum_below : goal.decreases-is_datum_below
decreases-is_datum_below l = item_size l.datum.now

abbrev pub decreases-are_data_below : goal.decreases-are_data_below
decreases-are_data_below l = items_size (items_of l.items.now)

abbrev pub decreases-is_tail_below : goal.decreases-is_tail_below
decreases-is_tail_below l = tail_size (tail_of l.tail.now)

abbrev pub invariant-are_data_below-loop-item : goal.invariant-are_data_below-loop-item
invariant-are_data_below-loop-item l =
    are_data_below l.count (items_of (drop l.item-index l.items)) ≡ are_data_below l.count (items_of l.items)
