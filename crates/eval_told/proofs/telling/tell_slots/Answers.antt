-- One slot after another is told.
use Rattle.std.proofs.Common.{None}
use Rattle.std.proofs.lemmas.Option.{slice_get-get_or}
use Rattle.eval_told.specs.Parts.{objects_of}
use Rattle.eval_told.proofs.Slots.{none_told, next_told}
use Rattle.eval_told.proofs.telling.tell_slots.Goals as goal

pub loop-slot-init : goal.loop-slot-init
loop-slot-init c = none_told c.args.names.now c.args.classes.now (objects_of c.args.names.now c.args.store.now) c.new-told.result c.new-told.ensures

pub loop-slot-preserved : goal.loop-slot-preserved
loop-slot-preserved c =
    next_told c.args.names.now c.args.classes.now (objects_of c.args.names.now c.args.store.now) c.as_slice-slot-items.result.now c.loop-slot.slot-index _ c.loop-slot.told _ _
    (slice_get-get_or c.as_slice-slot-items.result.now c.loop-slot.slot-index None c.loop-slot-test.true) c.loop-slot.invariant c.in_ok-begin_slot.ensures c.in_ok-tell_slot.ensures
