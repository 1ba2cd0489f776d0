-- The object stands under its number.
use Rattle.eval_primitives.proofs.Placing.{kept}
use Rattle.eval_primitives.proofs.making.keep.Goals as goal

pub returns-in-Ok-add : goal.returns-in-Ok-add
returns-in-Ok-add c = kept c.args.store.now c.charge.new.self c.add.new.self c.args.size c.args.besides c.in-Ok-add.number c.args.object c.in-Ok.ensures.answer c.in-Ok-add.ensures.number c.in-Ok-add.ensures.ok
