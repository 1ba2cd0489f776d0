-- What was counted, with the methods that are left, is no fewer.
use Rattle.std.proofs.Common.{◌≤◌, ◌+◌, drop}
use Rattle.std.specs.List.{sum_by}
use Rattle.front_scope.specs.Below.{places}
use Rattle.front_scope.proofs.quick.most_chains.Given as goal

abbrev pub invariant-loop-method : goal.invariant-loop-method
invariant-loop-method l =
    sum_by (λ m. places l.classes.rows m.classes) l.generic.methods
    ≤ l.most + sum_by (λ m. places l.classes.rows m.classes) (drop l.method-index l.generic.methods)
