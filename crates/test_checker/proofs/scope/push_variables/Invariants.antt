-- The variables before the index are appended.
use Rattle.std.proofs.Common.{◌≡◌, ◌++◌, take}
use Rattle.test_checker.proofs.scope.push_variables.Given as goal

abbrev pub invariant-loop-var : goal.invariant-loop-var
invariant-loop-var l = l.list ≡ l.initial.list ++ take l.var-index l.more
