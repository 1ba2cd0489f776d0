-- A class is told by its name, a datum as it is written, any other value by its class.
use Rattle.std.proofs.lemmas.Result.{on_ok_weaker}
use Rattle.eval_store.specs.Words.{value_of_word}
use Rattle.eval_told.specs.Parts.{objects_of}
use Rattle.eval_told.proofs.Found.{class_is}
use Rattle.eval_told.proofs.Written.{written_of, unwritten_of}
use Rattle.eval_told.proofs.Slots.{class_told, datum_told, other_told}
use Rattle.eval_told.proofs.telling.tell_value.Goals as goal

pub returns-in-Some : goal.returns-in-Some
returns-in-Some c =
    on_ok_weaker c.append.result
    (λ h.
    class_told c.args.names.now c.args.classes.now (objects_of c.args.names.now c.args.store.now) (value_of_word c.args.names.now c.args.word) c.in-Some.class c.args.out.now _ _
    (c.in-Some.ensures c.args.names.now) c.class_name.ensures h)
    c.append.ensures.ok

pub returns-then-written : goal.returns-then-written
returns-then-written c =
    on_ok_weaker c.append-then-written.result
    (λ h.
    datum_told c.args.names.now c.args.classes.now (objects_of c.args.names.now c.args.store.now) (value_of_word c.args.names.now c.args.word) _ c.args.out.now _ _ _ _ c.new-text.ensures
    (written_of _ _ _ _ _ _ c.in_ok-written.written c.if-written.true c.in_ok-written.ensures) c.as_slice.ensures h)
    c.append-then-written.ensures.ok

pub returns : goal.returns
returns c =
    on_ok_weaker c.append-2.result
    (λ h.
    other_told c.args.names.now c.args.classes.now (objects_of c.args.names.now c.args.store.now) (value_of_word c.args.names.now c.args.word) c.class_of.result c.args.out.now _ _ _
    (c.in_default.ensures c.args.names.now) (unwritten_of _ _ _ _ _ _ c.in_ok-written.written c.if-written.false c.in_ok-written.ensures)
    (class_is c.args.names.now c.args.store.now c.args.word c.class_of.result c.class_of.ensures) c.in_ok-push.ensures.ok c.class_name-2.ensures h)
    c.append-2.ensures.ok
