-- The exits before the index are appended.
use Rattle.std.proofs.Common.{◌≡◌, ◌++◌, take}
use Rattle.test_checker.proofs.scope.push_exits.Given as goal

abbrev pub invariant-loop-exit : goal.invariant-loop-exit
invariant-loop-exit l = l.list ≡ l.initial.list ++ take l.exit-index l.more
