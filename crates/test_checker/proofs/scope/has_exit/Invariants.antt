-- None of the exits so far is it.
use Rattle.std.proofs.Common.{◌≡◌, ◌==◌, drop}
use Rattle.std.specs.List.{list_any}
use Rattle.test_checker.proofs.scope.has_exit.Given as goal

abbrev pub invariant-loop-e : goal.invariant-loop-e
invariant-loop-e l = list_any (λ e. l.exit == e.exit) (drop l.e-index l.scope.exits) ≡ list_any (λ e. l.exit == e.exit) l.scope.exits
