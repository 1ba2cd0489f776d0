-- None of the variables so far is it.
use Rattle.std.proofs.Common.{◌≡◌, ◌==◌, drop}
use Rattle.std.specs.List.{list_any}
use Rattle.test_checker.proofs.scope.has_variable.Given as goal

abbrev pub invariant-loop-v : goal.invariant-loop-v
invariant-loop-v l = list_any (λ v. l.var == v) (drop l.v-index l.scope.variables) ≡ list_any (λ v. l.var == v) l.scope.variables
