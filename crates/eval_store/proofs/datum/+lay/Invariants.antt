-- The sizes of the data fall; in a loop the data so far are made.
use Rattle.std.proofs.Common.{◌+◌, ◌*◌, drop}
use Rattle.base.specs.Data.{items_of, item_size, content_size, items_size, tail_size}
use Rattle.base.specs.model.DataView.{view_content, tail_of}
use Rattle.lang_meaning.specs.Literals.{lay}
use Rattle.eval_store.specs.Words.{value_of_word}
use Rattle.eval_store.specs.Recipes.{IsMaking}
use Rattle.lang_meaning.specs.Recipes.{laid}
use Rattle.eval_store.proofs.datum.+lay.Given as goal

abbrev pub decreases-lay_datum : goal.decreases-lay_datum
decreases-lay_datum l = 2 * item_size l.datum.now

abbrev pub decreases-lay_kind : goal.decreases-lay_kind
decreases-lay_kind l = 2 * content_size (view_content l.kind.now)

abbrev pub decreases-lay_vector : goal.decreases-lay_vector
decreases-lay_vector l = 2 * items_size (items_of l.items.now) + 1

abbrev pub decreases-lay_items : goal.decreases-lay_items
decreases-lay_items l = 2 * items_size (items_of l.items.now)

abbrev pub decreases-lay_list : goal.decreases-lay_list
decreases-lay_list l = 2 * (items_size (items_of l.items.now) + tail_size (tail_of l.tail.now)) + 1

abbrev pub decreases-lay_tail : goal.decreases-lay_tail
decreases-lay_tail l = 2 * tail_size (tail_of l.tail.now)

abbrev pub invariant-lay_items-loop-at : goal.invariant-lay_items-loop-at
invariant-lay_items-loop-at l = IsMaking value_of_word (λ names d. laid (lay names d)) l.fn.store l.store l.items (drop l.at l.items) l.words
