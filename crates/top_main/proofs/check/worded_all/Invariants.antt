-- The warnings that are passed are in words.
use Rattle.std.proofs.Common.{◌≡◌, map, take}
use Rattle.top_main.specs.Theorem.{worded}
use Rattle.top_main.proofs.check.worded_all.Given as goal

abbrev pub invariant-loop-warning : goal.invariant-loop-warning
invariant-loop-warning l = l.lines ≡ map (worded l.names) (take l.warning-index l.warnings)
