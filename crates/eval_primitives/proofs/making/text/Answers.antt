-- The string is what the meaning makes, or its words were not granted.
use Rattle.std.proofs.Common.{length, refl}
use Rattle.eval_primitives.proofs.Placing.{text_brought, text_refused}
use Rattle.eval_primitives.proofs.making.text.Goals as goal

pub returns-in-Ok-from_slice : goal.returns-in-Ok-from_slice
returns-in-Ok-from_slice c = rw c.answered.ensures (text_brought c.args.limit (length c.args.bytes.now) c.args.bytes.now c.in-Ok-from_slice.copied c.args.store.now c.request.new.self c.keep.new.store c.keep.result refl c.in-Ok.ensures.answer c.in-Ok-from_slice.ensures c.keep.ensures)

pub returns-in-Err : goal.returns-in-Err
returns-in-Err c = text_refused _ c.args.limit (length c.args.bytes.now) c.args.bytes.now c.args.store.now c.request.new.self c.in-Err.halt refl c.in-Err.ensures.answer
