-- The main forms that are left are called behind those that were.
use Rattle.std.proofs.Common.{◌≡◌, ◌+◌, ◌++◌, drop}
use Rattle.back_lowering.specs.Program as lowering
use Rattle.back_procedures.proofs.mains.mains_called.Given as goal

abbrev pub invariant-loop-i : goal.invariant-loop-i
invariant-loop-i l =
    l.code ++ lowering.mains_called l.given.names.now l.given.at.now l.given.program.now (l.first + l.i) (drop l.i l.list)
    ≡ l.initial.code ++ lowering.mains_called l.given.names.now l.given.at.now l.given.program.now l.first l.list
