-- The sizes of the data fall, and an item of a list comes before its template.
use Rattle.std.proofs.Common.{◌≡◌, ◌≤◌, ◌+◌, ◌*◌, length}
use Rattle.base.specs.Data.{items_of, item_size, items_size, tail_size}
use Rattle.lang_derived.specs.Shown.{tail_shown}
use Rattle.lang_derived.specs.Quotation.{parts, tail_part}
use Rattle.lang_derived.specs.Prefixes.{pieces_before}
use Rattle.lang_derived.proofs.quotation.+quotation.Given as goal

abbrev pub decreases-template : goal.decreases-template
decreases-template l = 2 * item_size l.datum.now

abbrev pub decreases-template_list : goal.decreases-template_list
decreases-template_list l = 2 * (items_size (items_of l.items.now) + tail_size (tail_shown l.tail)) + 1

abbrev pub decreases-template_pair : goal.decreases-template_pair
decreases-template_pair l = 2 * (item_size l.first.now + item_size l.second.now) + 2

abbrev pub decreases-unquoted : goal.decreases-unquoted
decreases-unquoted l = 2 * item_size l.datum.now + 1

abbrev pub decreases-spliced : goal.decreases-spliced
decreases-spliced l = 2 * item_size l.datum.now + 1

abbrev pub decreases-part : goal.decreases-part
decreases-part l = 2 * item_size l.datum.now + 1

abbrev pub decreases-parts : goal.decreases-parts
decreases-parts l = 2 * (items_size (items_of l.items.now) + tail_size (tail_shown l.tail))

abbrev pub invariant-parts-loop-item : goal.invariant-parts-loop-item
invariant-parts-loop-item l = record {
  before : pieces_before l.list (parts l.names l.level (items_of l.rest) (tail_part l.names l.level (tail_shown l.tail)))
      ≡ pieces_before l.initial.list (parts l.names l.level (items_of l.items) (tail_part l.names l.level (tail_shown l.tail)));
  smaller : items_size (items_of l.rest) ≤ items_size (items_of l.items);
}

abbrev pub decreases-parts-loop-item : goal.decreases-parts-loop-item
decreases-parts-loop-item l = length l.rest
