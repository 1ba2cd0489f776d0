-- The sizes of the data fall; in a loop the data so far are laid, and there is room for the others.
use Rattle.std.proofs.Common.{◌≡◌, ◌+◌, ◌*◌, ◌≤◌, length, take, drop}
use Rattle.base.specs.Data.{items_of, item_size, items_size, tail_size}
use Rattle.base.specs.DataMeasures.{sizes_of}
use Rattle.base.specs.model.DataView.{tail_of}
use Rattle.lang_meaning.specs.Literals as literals
use Rattle.mid_start.specs.Laying.{Grown, LaysAll}
use Rattle.mid_start.proofs.laying.+lay.Given as goal

abbrev pub decreases-lay_item : goal.decreases-lay_item
decreases-lay_item l = 2 * item_size l.datum.now

abbrev pub decreases-lay_vector : goal.decreases-lay_vector
decreases-lay_vector l = 2 * items_size (items_of l.items.now) + 1

abbrev pub decreases-lay_items : goal.decreases-lay_items
decreases-lay_items l = 2 * items_size (items_of l.items.now)

abbrev pub decreases-lay_list : goal.decreases-lay_list
decreases-lay_list l = 2 * (items_size (items_of l.items.now) + tail_size (tail_of l.tail.now)) + 1

abbrev pub decreases-lay_tail : goal.decreases-lay_tail
decreases-lay_tail l = 2 * tail_size (tail_of l.tail.now)

abbrev pub invariant-lay_items-loop-at : goal.invariant-lay_items-loop-at
invariant-lay_items-loop-at l = record {
  grown : Grown l.fn.words l.words;
  each : length l.laid ≡ l.at;
  count :
      length l.words.words + 2 * l.at + 70 * sizes_of (items_of (drop l.at l.items)) ≤ length l.fn.words.words + 70 * sizes_of (items_of l.items);
  laid : LaysAll l.names (literals.lay_items l.names (items_of (take l.at l.items))) l.fn.words l.words l.laid;
}
