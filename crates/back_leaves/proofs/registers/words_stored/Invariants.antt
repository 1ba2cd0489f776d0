-- The words that are left are stored behind those that were.
use Rattle.std.proofs.Common.{◌≡◌, ◌+◌, ◌-◌, ◌*◌, ◌++◌}
use Rattle.back_lowering.specs.Steps.{words_stored}
use Rattle.back_leaves.proofs.registers.words_stored.Given as goal

abbrev pub invariant-loop-i : goal.invariant-loop-i
invariant-loop-i l =
    l.code ++ words_stored (l.count - l.i) (l.d + l.i) l.base l.t (0 + 4 * l.i) ≡ l.initial.code ++ words_stored l.count l.d l.base l.t 0
