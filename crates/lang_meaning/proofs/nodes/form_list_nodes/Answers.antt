-- Each item is counted.
use Rattle.lang_meaning.specs.Counts.{all_nodes}
use Rattle.base.specs.bridge.Counted.{one_more}
use Rattle.lang_meaning.proofs.nodes.form_list_nodes.Goals as goal

pub loop-at-preserved : goal.loop-at-preserved
loop-at-preserved c = one_more all_nodes c.args.list.now c.args.from c.loop-at.at c.in-Some.form.now _ _ _ c.in-Some.ensures c.form_nodes.ensures c.saturating_add-total.ensures c.loop-at.invariant
