-- A variable more.
use Rattle.front_elaboration.proofs.SetsOfParts.{read_there}
use Rattle.front_elaboration.proofs.Walks.{binding_removed}
use Rattle.front_elaboration.proofs.mentioning.unbind_variables.Goals as goal

pub loop-binding-preserved : goal.loop-binding-preserved
loop-binding-preserved c =
    binding_removed c.args.list.now c.loop-binding.binding-index c.binding-item.result c.args.inner.now c.loop-binding.inner c.remove.new.self
    (read_there c.args.list.now c.as_slice-binding-items.result.now c.loop-binding.binding-index c.binding-item.result c.as_slice-binding-items.ensures c.loop-binding-test.true
    c.binding-item.is)
    c.loop-binding.invariant c.remove.ensures
