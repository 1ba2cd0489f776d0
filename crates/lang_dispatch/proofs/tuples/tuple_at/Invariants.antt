-- The tuple of the lists so far, and the number among the tuples of the others.
use Rattle.lang_dispatch.proofs.Decoding.{Decoding}
use Rattle.lang_dispatch.proofs.tuples.tuple_at.Given as goal

abbrev pub invariant-loop-list : goal.invariant-loop-list
invariant-loop-list l = Decoding l.lists l.index l.tuple l.left l.place l.list-index
