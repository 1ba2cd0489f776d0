-- The character stands at its place.
use Rattle.eval_primitives.proofs.Telling.{char_at_there}
use Rattle.eval_primitives.proofs.elements.char_at.Goals as goal

pub returns-in-Ok : goal.returns-in-Ok
returns-in-Ok c = char_at_there c.args.store.now c.args.word c.args.place c.in-Some.bytes.now c.len.result c.in-Ok.at c.item_at.result c.in-Some.ensures c.len.ensures c.in-Ok.ensures c.item_at.ensures
