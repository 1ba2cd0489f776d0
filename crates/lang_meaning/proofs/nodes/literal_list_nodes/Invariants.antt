-- The loop counts the list.
use Rattle.lang_meaning.specs.ProgramCounts.{row_nodes}
use Rattle.base.specs.bridge.Counted.{IsCounted}
use Rattle.lang_meaning.proofs.nodes.literal_list_nodes.Given as goal

abbrev pub invariant-loop-at : goal.invariant-loop-at
invariant-loop-at l = IsCounted row_nodes l.list l.from l.at l.total
