-- The table has the values that it had, and what is left is counted.
use Rattle.std.proofs.Common.{◌+◌, ◌-◌}
use Rattle.std.specs.Vec.{vec_len}
use Rattle.eval_store.specs.NamedValues.{IsAlike}
use Rattle.eval_store.proofs.named_values.NamedValues.reach.Given as goal

abbrev pub invariant-loop-self : goal.invariant-loop-self
invariant-loop-self l = IsAlike l.fn.self l.self

abbrev pub decreases-loop-self : goal.decreases-loop-self
decreases-loop-self l = l.number + 1 - vec_len l.self.values
