-- The loop counts the list.
use Rattle.lang_meaning.specs.ProgramCounts.{class_nodes}
use Rattle.base.specs.bridge.Counted.{IsCounted}
use Rattle.front_scope.proofs.counts.class_nodes_from.Given as goal

abbrev pub invariant-loop-at : goal.invariant-loop-at
invariant-loop-at l = IsCounted class_nodes l.list l.from l.at l.total
