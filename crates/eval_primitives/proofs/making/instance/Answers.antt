-- The instance is what the meaning makes, or its words were not granted.
use Rattle.eval_primitives.proofs.Placing.{instance_brought, instance_refused}
use Rattle.eval_primitives.proofs.making.instance.Goals as goal

pub returns-in-Ok-filled : goal.returns-in-Ok-filled
returns-in-Ok-filled c = rw c.answered.ensures (instance_brought c.args.limit c.args.words c.args.class c.args.count c.in-Ok-filled.slots c.args.store.now c.request.new.self c.keep.new.store c.keep.result c.in-Ok.ensures.answer c.in-Ok-filled.ensures c.keep.ensures)

pub returns-in-Err : goal.returns-in-Err
returns-in-Err c = instance_refused _ c.args.limit c.args.words c.args.class c.args.count c.args.store.now c.request.new.self c.in-Err.halt c.in-Err.ensures.answer
