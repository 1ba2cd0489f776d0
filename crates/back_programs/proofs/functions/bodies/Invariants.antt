-- The bodies that are left stand behind those that were made.
use Rattle.std.proofs.Common.{◌≡◌, ◌++◌, drop, ◌+◌}
use Rattle.back_lowering.specs.Program as lowering
use Rattle.back_programs.proofs.functions.bodies.Given as goal

abbrev pub invariant-loop-i : goal.invariant-loop-i
invariant-loop-i l =
    l.list ++ lowering.bodies_from l.given.names.now l.given.at.now l.given.program.now (0 + l.i) (drop l.i l.given.program.now.procedures)
    ≡ l.initial.list ++ lowering.bodies_from l.given.names.now l.given.at.now l.given.program.now 0 l.given.program.now.procedures
