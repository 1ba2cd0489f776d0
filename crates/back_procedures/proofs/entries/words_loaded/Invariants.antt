-- The words that are left are loaded behind those that were.
use Rattle.std.proofs.Common.{◌≡◌, ◌+◌, ◌-◌, ◌*◌, ◌++◌}
use Rattle.back_lowering.specs.Steps.{words_loaded}
use Rattle.back_procedures.proofs.entries.words_loaded.Given as goal

abbrev pub invariant-loop-i : goal.invariant-loop-i
invariant-loop-i l =
    l.code ++ words_loaded (l.count - l.i) (l.d + l.i) l.base (0 + 4 * l.i) ≡ l.initial.code ++ words_loaded l.count l.d l.base 0
