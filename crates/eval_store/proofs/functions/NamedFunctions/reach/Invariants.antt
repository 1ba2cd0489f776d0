-- The table has the functions that it had, and what is left is counted.
use Rattle.std.proofs.Common.{length, ◌+◌, ◌-◌}
use Rattle.eval_store.specs.Tables.{IsAlike}
use Rattle.eval_store.proofs.functions.NamedFunctions.reach.Given as goal

abbrev pub invariant-loop-self : goal.invariant-loop-self
invariant-loop-self l = IsAlike l.fn.self l.self

abbrev pub decreases-loop-self : goal.decreases-loop-self
decreases-loop-self l = l.number + 1 - length l.self.entries
