-- The string is what the meaning makes, or its words were not granted.
use Rattle.eval_primitives.proofs.Placing.{repeated_brought, repeated_refused}
use Rattle.eval_primitives.proofs.making.repeated.Goals as goal

pub returns-in-Ok-filled : goal.returns-in-Ok-filled
returns-in-Ok-filled c = rw c.answered.ensures (repeated_brought c.args.limit c.args.count c.args.code c.in-Ok-filled.bytes c.args.store.now c.request.new.self c.keep.new.store c.keep.result c.in-Ok.ensures.answer c.in-Ok-filled.ensures c.keep.ensures)

pub returns-in-Err : goal.returns-in-Err
returns-in-Err c = repeated_refused _ c.args.limit c.args.count c.args.code c.args.store.now c.request.new.self c.in-Err.halt c.in-Err.ensures.answer
