-- Places are only added, until there are enough.
use Rattle.std.proofs.Common.{◌+◌, ◌-◌, length}
use Rattle.mid_start.specs.Lists.{IsBeginning}
use Rattle.mid_start.proofs.symbol_words.reach.Given as goal

abbrev pub invariant-loop-places : goal.invariant-loop-places
invariant-loop-places l = IsBeginning l.fn.places l.places

abbrev pub decreases-loop-places : goal.decreases-loop-places
decreases-loop-places l = l.number + 1 - length l.places
