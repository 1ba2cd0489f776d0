-- What was counted, with the arguments that are left, is no fewer.
use Rattle.std.proofs.Common.{◌≤◌, ◌*◌, ◌-◌, length}
use Rattle.lang_dispatch.specs.OfClasses.{with_classes}
use Rattle.front_scope.specs.Cells.{all_tuples}
use Rattle.front_scope.proofs.CellBounds.{tuples_from}
use Rattle.front_scope.proofs.quick.most_tuples.Given as goal

abbrev pub invariant-loop-argument : goal.invariant-loop-argument
invariant-loop-argument l =
    length (all_tuples l.classes.rows l.generic)
    ≤ l.most * length (tuples_from (with_classes l.classes.rows) l.generic l.argument (l.generic.required - l.argument))
