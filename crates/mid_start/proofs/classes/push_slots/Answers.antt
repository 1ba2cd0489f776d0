-- The words of one slot more.
use Rattle.std.proofs.Common.{take}
use Rattle.mid_start.specs.Settling.{slot_words}
use Rattle.mid_start.proofs.Joins.{taken_more}
use Rattle.mid_start.proofs.Steps.{three_pushed, slots_more}
use Rattle.mid_start.proofs.classes.push_slots.Goals as goal

pub loop-at-preserved : goal.loop-at-preserved
loop-at-preserved c =
    rw (taken_more c.args.slots.now c.loop-at.at c.in-Some.slot.now c.in-Some.ensures, slots_more (take c.loop-at.at c.args.slots.now) c.in-Some.slot.now)
    (three_pushed c.args.words.now (slot_words (take c.loop-at.at c.args.slots.now)) c.push.new.self c.push-in-loop-at.new.self c.push-in-loop-at-2.new.self
    c.loop-at.words _ _ _ c.loop-at.invariant c.in_ok-push.ensures.ok c.in_ok-push-2.ensures.ok c.in_ok-push-3.ensures.ok)
