-- So many items are alike so far.
use Rattle.std.proofs.Common.{◌≡◌, replicate}
use Rattle.eval_primitives.proofs.making.filled.Given as goal

abbrev pub invariant-loop : goal.invariant-loop
invariant-loop g l = l.list ≡ replicate l.counter l.item
