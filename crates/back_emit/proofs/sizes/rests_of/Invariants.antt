-- What is left is counted from a line on.
use Rattle.std.proofs.Common.{◌-◌, length}
use Rattle.back_emit.proofs.Counted.{IsCounted}
use Rattle.back_emit.proofs.sizes.rests_of.Given as goal

abbrev pub invariant-loop-k : goal.invariant-loop-k
invariant-loop-k l = IsCounted l.places l.sizing l.ways l.nears l.lines (length l.lines - l.k) l.lefts
