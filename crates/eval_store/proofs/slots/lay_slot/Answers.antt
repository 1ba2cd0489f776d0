-- The list of the initargs, and then the initform's function.
use Rattle.eval_store.proofs.SlotParts.{slot_made}
use Rattle.eval_store.proofs.slots.lay_slot.Goals as goal

pub returns : goal.returns
returns c = slot_made c.args.slot.now c.in_ok-names.names c.in_ok-names.ensures c.in_ok-initargs.ensures c.in_ok-initform.ensures
