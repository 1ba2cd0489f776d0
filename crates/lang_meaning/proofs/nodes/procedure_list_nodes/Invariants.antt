-- The loop counts the list.
use Rattle.lang_meaning.specs.ProgramCounts.{procedure_nodes}
use Rattle.base.specs.bridge.Counted.{IsCounted}
use Rattle.lang_meaning.proofs.nodes.procedure_list_nodes.Given as goal

abbrev pub invariant-loop-at : goal.invariant-loop-at
invariant-loop-at l = IsCounted procedure_nodes l.list l.from l.at l.total
