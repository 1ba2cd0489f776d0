-- A place of an instance's slots, or none.
use Rattle.eval_primitives.proofs.Telling.{slot_there, slot_wrong, slot_none}
use Rattle.eval_primitives.proofs.elements.slot_in.Goals as goal

pub returns-in-None : goal.returns-in-None
returns-in-None c = slot_none c.args.store.now c.args.word c.args.place c.in-None.ensures

pub returns-in-Ok : goal.returns-in-Ok
returns-in-Ok c = slot_there c.args.store.now c.args.word c.args.place c.in-Some.instance.now c.len.result c.in-Ok.at c.in-Some.ensures c.len.ensures c.in-Ok.ensures

pub returns-in-Err : goal.returns-in-Err
returns-in-Err c = slot_wrong c.args.store.now c.args.word c.args.place c.in-Some.instance.now c.len.result c.in-Err.answer c.in-Some.ensures c.len.ensures c.in-Err.ensures
