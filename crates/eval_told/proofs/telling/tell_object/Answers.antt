-- What is no instance has no slots.
use Rattle.std.proofs.Common.{sym, subst}
use Rattle.eval_told.specs.Parts.{objects_of}
use Rattle.eval_told.specs.Telling.{SlotsAreTold}
use Rattle.eval_told.proofs.Slots.{none_told, no_slots}
use Rattle.eval_told.proofs.telling.tell_object.Goals as goal

pub returns-in_default : goal.returns-in_default
returns-in_default c =
    subst (λ ss. SlotsAreTold c.args.names.now c.args.classes.now (objects_of c.args.names.now c.args.store.now) ss c.new.result)
    (sym (no_slots c.args.names.now c.args.object.now c.in_default.not-Instance))
    (none_told c.args.names.now c.args.classes.now (objects_of c.args.names.now c.args.store.now) c.new.result c.new.ensures)
