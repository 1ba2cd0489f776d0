-- The count so far, times that of the lists that are left.
use Rattle.std.proofs.Common.{◌≡◌, ◌*◌, ◌≤◌, min, length, drop}
use Rattle.lang_meaning.specs.Cells.{tuples}
use Rattle.lang_dispatch.proofs.tuples.tuple_count.Given as goal

abbrev pub invariant-loop-list : goal.invariant-loop-list
invariant-loop-list l =
    record {
      fits : l.count ≤ 18446744073709551615;
      counted : min (l.count * length (tuples (drop l.list-index l.lists))) 18446744073709551615 ≡ min (length (tuples l.lists)) 18446744073709551615;
    }
