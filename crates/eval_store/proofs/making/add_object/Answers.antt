-- The object stands behind those that were there.
use Rattle.eval_store.proofs.Made.{object_added}
use Rattle.eval_store.proofs.making.add_object.Goals as goal

pub returns : goal.returns
returns c = object_added c.args.store.now c.add.new.self c.args.object c.in_ok-number.number c.in_ok-number.ensures.number c.in_ok-number.ensures.ok c.requires
