-- The vector is what the meaning makes, or its words were not granted.
use Rattle.eval_primitives.proofs.Placing.{vector_brought, vector_refused}
use Rattle.eval_primitives.proofs.making.vector.Goals as goal

pub returns-in-Ok-filled : goal.returns-in-Ok-filled
returns-in-Ok-filled c = rw c.answered.ensures (vector_brought c.args.limit c.args.count c.args.element c.in-Ok-filled.elements c.args.store.now c.request.new.self c.keep.new.store c.keep.result c.in-Ok.ensures.answer c.in-Ok-filled.ensures c.keep.ensures)

pub returns-in-Err : goal.returns-in-Err
returns-in-Err c = vector_refused _ c.args.limit c.args.count c.args.element c.args.store.now c.request.new.self c.in-Err.halt c.in-Err.ensures.answer
