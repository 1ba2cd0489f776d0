-- The sizes of the data fall; a loop has copied what is passed.
use Rattle.std.proofs.Common.{◌≡◌, take}
use Rattle.base.specs.Data.{items_of, item_size, content_size, items_size, tail_size}
use Rattle.base.specs.model.DataView.{view_content, tail_of}
use Rattle.base.proofs.datum.+copy.Given as goal

abbrev pub decreases-Datum::copy : goal.decreases-Datum::copy
decreases-Datum::copy l = item_size l.self.now

abbrev pub decreases-copies::kind_copy : goal.decreases-copies::kind_copy
decreases-copies::kind_copy l = content_size (view_content l.kind.now)

abbrev pub decreases-copies::list_copy : goal.decreases-copies::list_copy
decreases-copies::list_copy l = items_size (items_of l.items.now)

abbrev pub decreases-copies::tail_copy : goal.decreases-copies::tail_copy
decreases-copies::tail_copy l = tail_size (tail_of l.tail.now)

abbrev pub invariant-copies::list_copy-loop-at : goal.invariant-copies::list_copy-loop-at
invariant-copies::list_copy-loop-at l = l.copied ≡ take l.at l.items
