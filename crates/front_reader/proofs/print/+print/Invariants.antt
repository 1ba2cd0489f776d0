-- The sizes of the data fall; a loop has what is left to print still before it.
use Rattle.std.proofs.Common.{◌≡◌, ◌++◌, [], drop}
use Rattle.base.specs.Data.{items_of, item_size, items_size, tail_size}
use Rattle.base.specs.model.DataView.{tail_of}
use Rattle.front_reader.specs.Printing.{gap_before, items_spelling}
use Rattle.front_reader.proofs.print.+print.Given as goal

abbrev pub decreases-append_datum : goal.decreases-append_datum
decreases-append_datum l = item_size l.datum.now

abbrev pub decreases-append_items : goal.decreases-append_items
decreases-append_items l = items_size (items_of l.items.now)

abbrev pub decreases-append_tail : goal.decreases-append_tail
decreases-append_tail l = tail_size (tail_of l.tail.now)

abbrev pub invariant-append_items-loop-at : goal.invariant-append_items-loop-at
invariant-append_items-loop-at l =
    l.out ++ items_spelling l.names (gap_before l.at) (items_of (drop l.at l.items))
    ≡ l.initial.out ++ items_spelling l.names [] (items_of l.items)
