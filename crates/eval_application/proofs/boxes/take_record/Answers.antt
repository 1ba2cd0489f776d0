-- The words of the record.
use Rattle.std.proofs.Common.{List, length, ap, ◌∙◌, arith}
use Rattle.eval_store.specs.declared.word.Word.{Word}
use Rattle.eval_application.proofs.BoxWords.{record_taken}
use Rattle.eval_application.proofs.boxes.take_record.Goals as goal

pub returns-in-Some-checked_add : goal.returns-in-Some-checked_add
returns-in-Some-checked_add c =
    record_taken c.args.machine.now c.take_heap.new.self c.args.called.now c.in-Some.called c.args.keeps c.len.result c.in-Some-checked_add.words c.take_heap.result c.in-Some.is c.if-keeps.true (c.len.ensures ∙ ap (λ (xs : List Word). length xs) c.deref.ensures)
    (omega (arith, c.in-Some-checked_add.ensures)) c.take_heap.ensures
