-- One slot after another is told.
use Rattle.std.proofs.Common.{◌+◌, ◌/◌, refl, arith}
use Rattle.mid_told.proofs.Tells.{no_slot_passed, slot_passed, all_told}
use Rattle.mid_told.proofs.telling.tell_slots.Goals as goal

pub loop-k-init : goal.loop-k-init
loop-k-init c = no_slot_passed c.args.from.now (c.args.word / 4 + 2) c.slot_count-k-end.result c.args.out.now

pub loop-k-preserved : goal.loop-k-preserved
loop-k-preserved c =
    slot_passed c.args.from.now (c.args.word / 4 + 2) c.slot_count-k-end.result c.args.out.now c.loop-k.out c.loop-k.k c.loop-k.invariant c.loop-k-test.true c.word_in.result
    c.push.new.self c.tell_slot.new.out c.word_in.ensures c.in_ok-push.ensures.ok c.in_ok-tell_slot.ensures

pub returns : goal.returns
returns c =
    all_told c.args.from.now c.args.word (c.args.word / 4 + 2) c.slot_count-k-end.result c.args.out.now c.loop-k.out c.loop-k.k refl c.slot_count-k-end.ensures c.loop-k.invariant
    (omega arith)
