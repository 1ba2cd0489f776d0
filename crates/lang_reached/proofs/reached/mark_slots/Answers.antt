-- The initform of one slot more.
use Rattle.std.proofs.Common.{◌≤◌, arith, length}
use Rattle.lang_reached.proofs.Looking.{slot_more, slots_all}
use Rattle.lang_reached.proofs.reached.mark_slots.Goals as goal

pub loop-at-preserved : goal.loop-at-preserved
loop-at-preserved c =
    slot_more c.args.given.now.names.now c.args.given.now.program.now c.args.slots.now c.loop-at.at c.in-Some.slot.now c.args.search.now c.loop-at.search
    c.mark_initform.new.search c.in-Some.ensures c.loop-at.invariant c.in_ok-mark_initform.ensures

pub returns : goal.returns
returns c =
    let slots = c.args.slots.now in
    let all : length slots ≤ c.loop-at.at = omega (arith, c.loop-at-test.false, c.len-at-end.ensures) in
    slots_all c.args.given.now.names.now c.args.given.now.program.now slots c.loop-at.at c.args.search.now c.loop-at.search all c.loop-at.invariant
