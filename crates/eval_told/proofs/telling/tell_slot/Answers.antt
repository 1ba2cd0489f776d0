-- A slot is told by its value, or as unbound.
use Rattle.std.proofs.Common.{sym, subst}
use Rattle.std.proofs.lemmas.Result.{on_ok_weaker}
use Rattle.eval_store.specs.Words.{value_of_word, value_or_none}
use Rattle.eval_told.specs.Parts.{objects_of}
use Rattle.eval_told.specs.Telling.{SlotIsTold}
use Rattle.eval_told.proofs.Slots.{value_told, unbound_told}
use Rattle.eval_told.proofs.telling.tell_slot.Goals as goal

pub returns-in-Some : goal.returns-in-Some
returns-in-Some c =
    on_ok_weaker c.tell_value.result
    (λ h.
    subst (λ o. SlotIsTold c.args.names.now c.args.classes.now (objects_of c.args.names.now c.args.store.now) (value_or_none c.args.names.now o) c.args.out.now c.tell_value.new.out) (sym c.in-Some.is)
    (value_told c.args.names.now c.args.classes.now (objects_of c.args.names.now c.args.store.now) (value_of_word c.args.names.now c.in-Some.word) c.args.out.now _ h))
    c.tell_value.ensures

pub returns-in-None : goal.returns-in-None
returns-in-None c =
    on_ok_weaker c.append.result
    (λ h.
    subst (λ o. SlotIsTold c.args.names.now c.args.classes.now (objects_of c.args.names.now c.args.store.now) (value_or_none c.args.names.now o) c.args.out.now c.append.new.self) (sym c.in-None.is)
    (unbound_told c.args.names.now c.args.classes.now (objects_of c.args.names.now c.args.store.now) c.args.out.now _ h))
    c.append.ensures.ok
