-- The sum has what is counted, and the rest is still to be counted.
use Rattle.std.proofs.Common.{◌≡◌, ◌≤◌, ◌+◌, min, drop}
use Rattle.std.specs.List.{sum_by}
use Rattle.lang_meaning.specs.Cells.{generic_cells}
use Rattle.lang_dispatch.specs.OfClasses.{with_classes}
use Rattle.lang_dispatch.proofs.cells.cells.Given as goal

abbrev pub invariant-loop-generic : goal.invariant-loop-generic
invariant-loop-generic l =
    record {
      fits : l.sum ≤ 262145;
      counted : min (l.sum + sum_by (generic_cells (with_classes l.classes)) (drop l.generic-index l.generics)) 262145
          ≡ min (sum_by (generic_cells (with_classes l.classes)) l.generics) 262145;
    }
