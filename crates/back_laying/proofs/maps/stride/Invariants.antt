-- The product so far, times that of the lists that are left.
use Rattle.std.proofs.Common.{◌≡◌, ◌+◌, ◌*◌, ◌≤◌, drop, length, min}
use Rattle.lang_meaning.specs.Cells.{tuples}
use Rattle.back_laying.proofs.maps.stride.Given as goal

abbrev pub invariant-loop-at : goal.invariant-loop-at
invariant-loop-at l =
    record {
      fits : l.count ≤ 18446744073709551615;
      counted : min (l.count * length (tuples (drop l.at l.firsts))) 18446744073709551615
          ≡ min (length (tuples (drop (l.argument + 1) l.firsts))) 18446744073709551615;
    }
