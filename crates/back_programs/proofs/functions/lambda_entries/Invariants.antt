-- The entries that are left stand behind those that were made.
use Rattle.std.proofs.Common.{◌≡◌, ◌++◌, drop, length, ◌+◌}
use Rattle.back_lowering.specs.Program as lowering
use Rattle.back_programs.proofs.functions.lambda_entries.Given as goal

abbrev pub invariant-loop-i : goal.invariant-loop-i
invariant-loop-i l =
    l.list ++ lowering.lambda_entries_from l.given.names.now l.given.at.now l.given.program.now (length l.given.program.now.procedures + l.i) (drop l.i l.given.program.now.lambdas)
    ≡ l.initial.list ++ lowering.lambda_entries_from l.given.names.now l.given.at.now l.given.program.now (length l.given.program.now.procedures) l.given.program.now.lambdas
