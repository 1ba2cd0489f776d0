-- The slot at hand has the name, or one more has another name.
use Rattle.eval_primitives.proofs.Charging.{located, slot_found, slot_passed}
use Rattle.eval_primitives.proofs.primitives.Primitives.find_slot.Goals as goal

pub returns-then-is_slot : goal.returns-then-is_slot
returns-then-is_slot c =
    let here = located c.as_slice-row-items.result.now c.args.slots.now c.loop-at.at c.row-item.result c.as_slice-row-items.ensures c.loop-at-test.true c.row-item.is in
    slot_found c.args.self.now c.args.spelt c.args.slots.now c.loop-at.at c.row-item.result c.loop-at.invariant here.0 here.1 c.if-is_slot.ensures

pub loop-at-preserved : goal.loop-at-preserved
loop-at-preserved c =
    let here = located c.as_slice-row-items.result.now c.args.slots.now c.loop-at.at c.row-item.result c.as_slice-row-items.ensures c.loop-at-test.true c.row-item.is in
    slot_passed c.args.self.now c.args.spelt c.args.slots.now c.loop-at.at c.row-item.result c.loop-at.invariant here.0 here.1 c.if-is_slot.ensures
