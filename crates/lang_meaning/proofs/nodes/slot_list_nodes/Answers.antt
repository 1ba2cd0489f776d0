-- Each item is counted.
use Rattle.std.proofs.Common.{arith}
use Rattle.lang_meaning.specs.ProgramCounts.{slot_nodes}
use Rattle.base.specs.bridge.Counted.{one_more}
use Rattle.lang_meaning.proofs.nodes.slot_list_nodes.Goals as goal

pub loop-at-preserved : goal.loop-at-preserved
loop-at-preserved c = one_more slot_nodes c.args.list.now 0 c.loop-at.at c.in-Some.slot.now _ _ _ c.in-Some.ensures (omega (arith, c.len.ensures, c.saturating_add.ensures)) c.saturating_add-total.ensures c.loop-at.invariant
