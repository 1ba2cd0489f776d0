-- The elements that were passed are operands, and their conses are in the set.
use Rattle.std.proofs.Common.{eqb}
use Rattle.std.specs.HashSet.{contains}
use Rattle.eval_application.proofs.Spreads.{Spreading}
use Rattle.eval_application.proofs.spreading.push_unseen.Given as goal

abbrev pub invariant-loop-count : goal.invariant-loop-count
invariant-loop-count l = Spreading l.initial.machine l.machine l.fn.list l.left l.count (λ k. contains eqb l.seen k)
