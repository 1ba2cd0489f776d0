-- The loop counts the list.
use Rattle.lang_meaning.specs.ProgramCounts.{slot_nodes}
use Rattle.base.specs.bridge.Counted.{IsCounted}
use Rattle.front_scope.proofs.counts.slot_list_nodes.Given as goal

abbrev pub invariant-loop-at : goal.invariant-loop-at
invariant-loop-at l = IsCounted slot_nodes l.list 0 l.at l.total
