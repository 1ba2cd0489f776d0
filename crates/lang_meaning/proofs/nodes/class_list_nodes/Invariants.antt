-- The loop counts the list.
use Rattle.lang_meaning.specs.ProgramCounts.{class_nodes}
use Rattle.base.specs.bridge.Counted.{IsCounted}
use Rattle.lang_meaning.proofs.nodes.class_list_nodes.Given as goal

abbrev pub invariant-loop-at : goal.invariant-loop-at
invariant-loop-at l = IsCounted class_nodes l.list 0 l.at l.total
