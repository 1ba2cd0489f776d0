-- What was counted, with the generic functions that are left, is no fewer.
use Rattle.std.proofs.Common.{◌≤◌, ◌+◌, drop}
use Rattle.std.specs.List.{sum_by}
use Rattle.lang_meaning.specs.Cells.{generic_cells}
use Rattle.lang_dispatch.specs.OfClasses.{with_classes}
use Rattle.front_scope.specs.Scopes.{cells_of}
use Rattle.front_scope.proofs.quick.most_cells.Given as goal

abbrev pub invariant-loop-at : goal.invariant-loop-at
invariant-loop-at l =
    cells_of l.tables ≤ l.most + sum_by (generic_cells (with_classes l.tables.classes.rows)) (drop l.at l.tables.generics)
