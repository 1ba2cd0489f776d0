-- It is still to be found in the rest.
use Rattle.std.proofs.Common.{◌≡◌, drop}
use Rattle.lang_meaning.specs.Standing.{exit_around}
use Rattle.test_checker.proofs.scope.exit_around.Given as goal

abbrev pub invariant-loop-e : goal.invariant-loop-e
invariant-loop-e l = exit_around l.exit (drop l.e-index l.exits) ≡ exit_around l.exit l.exits
