-- What was counted, with the classes that are left, is no fewer.
use Rattle.std.proofs.Common.{◌≤◌, ◌*◌, drop}
use Rattle.front_scope.specs.Below.{places}
use Rattle.front_scope.proofs.quick.most_places.Given as goal

abbrev pub invariant-loop-class : goal.invariant-loop-class
invariant-loop-class l =
    places l._classes.rows l.method.classes ≤ l.most * places l._classes.rows (drop l.class-index l.method.classes)
