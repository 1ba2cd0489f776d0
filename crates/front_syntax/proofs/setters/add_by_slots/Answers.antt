-- A slot is added.
use Rattle.front_syntax.proofs.AskedNames.{slot_turn}
use Rattle.front_syntax.proofs.setters.add_by_slots.Goals as goal

pub loop-slot-preserved : goal.loop-slot-preserved
loop-slot-preserved c =
    let h = c.in_ok-add_by_slot.ensures in
    slot_turn _ _ _ c.args.slots.now c.loop-slot.slot-index c.slot-item.result _ c.loop-slot.invariant c.loop-slot-test.true c.slot-item.is h.names h.given
