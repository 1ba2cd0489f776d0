-- The cells that are left stand behind those that were laid.
use Rattle.std.proofs.Common.{◌≡◌, ◌+◌, ◌*◌, ◌++◌, drop}
use Rattle.flat_language.specs.model.View.{dynamics_of}
use Rattle.back_lowering.specs.Codes.{bindings_laid}
use Rattle.back_calls.proofs.bindings.bindings_laid.Given as goal

abbrev pub invariant-loop-i : goal.invariant-loop-i
invariant-loop-i l =
    l.code ++ bindings_laid l.given.names.now l.given.at.now l.given.program.now (l.d + l.i) l.b l.old l.t (12 * l.i) (dynamics_of (drop l.i l.list))
    ≡ l.fn.code ++ bindings_laid l.given.names.now l.given.at.now l.given.program.now l.d l.b l.old l.t 0 (dynamics_of l.list)
