-- The slot is behind those of other activations.
use Rattle.std.proofs.Common.{ap, length, arith}
use Rattle.eval_state.proofs.SlotLists.{slot_there, slot_past}
use Rattle.eval_state.proofs.machine.Machine.slot.Goals as goal

pub returns-then-number-slots : goal.returns-then-number-slots
returns-then-number-slots c =
    slot_there c.args.self.now.slots.items c.as_slice-slots.result.now c.args.self.now.current.slots c.first_slot-first.result c.args.number _
    c.as_slice-slots.ensures.value c.first_slot-first.ensures c.if-number-slots.true

pub returns-else-number-slots : goal.returns-else-number-slots
returns-else-number-slots c =
    slot_past c.args.self.now.slots.items c.args.self.now.current.slots c.first_slot-first.result c.args.number c.first_slot-first.ensures
    (omega (arith, ap length c.as_slice-slots.ensures.value))
