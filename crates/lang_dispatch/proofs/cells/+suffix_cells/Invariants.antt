-- The sum has what is counted, and the rest is still to be counted; the lists get fewer.
use Rattle.std.proofs.Common.{◌≡◌, ◌≤◌, ◌+◌, min, drop, length}
use Rattle.std.specs.List.{sum_by}
use Rattle.lang_meaning.specs.Cells.{tuples}
use Rattle.lang_dispatch.specs.OfClasses.{with_classes}
use Rattle.lang_dispatch.specs.Suffixes.{rest_cells}
use Rattle.lang_dispatch.proofs.TuplePlaces.{fan}
use Rattle.lang_dispatch.proofs.cells.+suffix_cells.Given as goal

abbrev pub decreases-suffix_cells : goal.decreases-suffix_cells
decreases-suffix_cells l = length l.lists.now

abbrev pub invariant-loop-at : goal.invariant-loop-at
invariant-loop-at l =
    record {
      fits : l.sum ≤ 262145;
      counted : min (l.sum + sum_by (rest_cells (with_classes l.classes) l.argument l.methods) (fan (drop l.at l.firsts) (tuples l.rest))) 262145
          ≡ min (sum_by (rest_cells (with_classes l.classes) l.argument l.methods) (fan l.firsts (tuples l.rest))) 262145;
    }
