-- Each item is counted.
use Rattle.lang_meaning.specs.ProgramCounts.{class_nodes}
use Rattle.base.specs.bridge.Counted.{one_more}
use Rattle.lang_meaning.proofs.nodes.class_list_nodes.Goals as goal

pub loop-at-preserved : goal.loop-at-preserved
loop-at-preserved c = one_more class_nodes c.args.list.now 0 c.loop-at.at c.in-Some.row.now _ _ _ c.in-Some.ensures c.class_nodes.ensures c.saturating_add-total.ensures c.loop-at.invariant
