-- The slot has another value.
use Rattle.eval_primitives.proofs.Changing.{slot_is_set}
use Rattle.eval_primitives.proofs.setting.set_slot.Goals as goal

pub returns-in-Ok : goal.returns-in-Ok
returns-in-Ok c = slot_is_set c.args.store.now c.set_slot.new.self c.args.value c.args.word c.args.place c.in-Ok._instance.now c.in-Ok.at c.in-Ok.ensures c.set_slot.ensures.set
