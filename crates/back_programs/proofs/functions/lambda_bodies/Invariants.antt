-- The bodies that are left stand behind those that were made.
use Rattle.std.proofs.Common.{◌≡◌, ◌++◌, drop}
use Rattle.back_lowering.specs.Program as lowering
use Rattle.back_programs.proofs.functions.lambda_bodies.Given as goal

abbrev pub invariant-loop-i : goal.invariant-loop-i
invariant-loop-i l =
    l.list ++ lowering.lambda_bodies l.given.names.now l.given.at.now l.given.program.now (drop l.i l.given.program.now.lambdas)
    ≡ l.initial.list ++ lowering.lambda_bodies l.given.names.now l.given.at.now l.given.program.now l.given.program.now.lambdas
