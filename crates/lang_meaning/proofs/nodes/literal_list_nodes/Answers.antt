-- Each item is counted.
use Rattle.lang_meaning.specs.ProgramCounts.{row_nodes}
use Rattle.base.specs.bridge.Counted.{one_more}
use Rattle.lang_meaning.proofs.nodes.literal_list_nodes.Goals as goal

pub loop-at-preserved : goal.loop-at-preserved
loop-at-preserved c = one_more row_nodes c.args.list.now c.args.from c.loop-at.at c.in-Some.row.now _ _ _ c.in-Some.ensures c.row_nodes.ensures c.saturating_add-total.ensures c.loop-at.invariant
