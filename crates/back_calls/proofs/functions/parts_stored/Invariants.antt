-- The parts that are left stand behind those that were stored.
use Rattle.std.proofs.Common.{◌≡◌, ◌+◌, ◌*◌, ◌++◌, drop}
use Rattle.back_lowering.specs.Codes.{parts_stored}
use Rattle.back_calls.proofs.functions.parts_stored.Given as goal

abbrev pub invariant-loop-i : goal.invariant-loop-i
invariant-loop-i l =
    l.code ++ parts_stored l.given.names.now l.given.at.now l.given.program.now l.scope l.d l.t (8 + 4 * l.i) (drop l.i l.parts)
    ≡ l.fn.code ++ parts_stored l.given.names.now l.given.at.now l.given.program.now l.scope l.d l.t 8 l.parts
