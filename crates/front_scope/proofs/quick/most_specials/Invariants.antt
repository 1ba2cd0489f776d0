-- What was counted, with the methods that are left, is no fewer.
use Rattle.std.proofs.Common.{◌≤◌, ◌+◌, drop}
use Rattle.std.specs.List.{sum_by}
use Rattle.front_scope.specs.Below.{special_at}
use Rattle.front_scope.proofs.quick.most_specials.Given as goal

abbrev pub invariant-loop-method : goal.invariant-loop-method
invariant-loop-method l =
    sum_by (special_at l.classes.rows l.argument) l.generic.methods
    ≤ l.most + sum_by (special_at l.classes.rows l.argument) (drop l.method-index l.generic.methods)
