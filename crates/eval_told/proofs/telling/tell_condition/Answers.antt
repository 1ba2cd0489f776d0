-- The slots of the word's object are those of the condition.
use Rattle.std.proofs.lemmas.Result.{IfOk-weaker}
use Rattle.eval_store.specs.Words.{value_of_word}
use Rattle.eval_told.specs.Parts.{objects_of}
use Rattle.eval_told.proofs.Found.{slots_there, no_slots_there}
use Rattle.eval_told.proofs.Slots.{none_told, condition_told}
use Rattle.eval_told.proofs.telling.tell_condition.Goals as goal

pub returns-in-Some : goal.returns-in-Some
returns-in-Some c =
    IfOk-weaker c.tell_object.result _ _
    (λ told h. λ b.
    condition_told c.args.names.now c.args.classes.now (objects_of c.args.names.now c.args.store.now) (value_of_word c.args.names.now c.args.word) _ told
    (slots_there c.args.names.now c.args.store.now c.args.word c.in-Some.object.now c.in-Some.ensures) h)
    c.tell_object.ensures

pub returns-in-None : goal.returns-in-None
returns-in-None c = λ b.
    condition_told c.args.names.now c.args.classes.now (objects_of c.args.names.now c.args.store.now) (value_of_word c.args.names.now c.args.word) _ c.new.result
    (no_slots_there c.args.names.now c.args.store.now c.args.word c.in-None.ensures)
    (none_told c.args.names.now c.args.classes.now (objects_of c.args.names.now c.args.store.now) c.new.result c.new.ensures)
