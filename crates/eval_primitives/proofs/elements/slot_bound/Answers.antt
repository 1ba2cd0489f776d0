-- The slot has a value.
use Rattle.eval_primitives.proofs.Telling.{slot_bound_there}
use Rattle.eval_primitives.proofs.elements.slot_bound.Goals as goal

pub returns-in-Some : goal.returns-in-Some
returns-in-Some c = slot_bound_there c.args.store.now c.args.word c.args.place c.in-Ok.instance.now c.in-Ok.at c.in-Some._value c.says.result c.in-Ok.ensures c.in-Some.ensures c.says.ensures
