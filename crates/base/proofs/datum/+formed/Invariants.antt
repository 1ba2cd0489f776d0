-- The sizes of the data fall; in a loop it is left to see whether the rest is in form.
use Rattle.std.proofs.Common.{◌≡◌, drop}
use Rattle.base.specs.Data.{items_of, item_size, items_size, tail_size}
use Rattle.base.specs.model.DataView.{tail_of}
use Rattle.base.specs.DataFormed.{all_are_formed}
use Rattle.base.proofs.datum.+formed.Given as goal

abbrev pub decreases-Datum::is_formed : goal.decreases-Datum::is_formed
decreases-Datum::is_formed l = item_size l.self.now

abbrev pub decreases-formed::are_formed : goal.decreases-formed::are_formed
decreases-formed::are_formed l = items_size (items_of l.items.now)

abbrev pub decreases-formed::is_formed_tail : goal.decreases-formed::is_formed_tail
decreases-formed::is_formed_tail l = tail_size (tail_of l.tail.now)

abbrev pub invariant-formed::are_formed-loop-item : goal.invariant-formed::are_formed-loop-item
invariant-formed::are_formed-loop-item l = all_are_formed (items_of (drop l.item-index l.items)) ≡ all_are_formed (items_of l.items)
