-- The loop counts the list.
use Rattle.lang_meaning.specs.Counts.{all_nodes}
use Rattle.base.specs.bridge.Counted.{IsCounted}
use Rattle.lang_meaning.proofs.nodes.form_list_nodes.Given as goal

abbrev pub invariant-loop-at : goal.invariant-loop-at
invariant-loop-at l = IsCounted all_nodes l.list l.from l.at l.total
