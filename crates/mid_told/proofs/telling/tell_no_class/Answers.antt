-- What is written is told; else the name of the class.
use Rattle.std.proofs.Common.{◌++◌, ap, ◌∙◌, subst}
use Rattle.std.proofs.lemmas.Result.{on_ok_weaker}
use Rattle.lang_told.specs.Told.{most_parts}
use Rattle.mid_told.specs.Writing.{WordWritten}
use Rattle.mid_told.proofs.Tells.{datum_told, other_told}
use Rattle.mid_told.proofs.telling.tell_no_class.Goals as goal

pub returns-in-Ok : goal.returns-in-Ok
returns-in-Ok c =
    on_ok_weaker c.append.result
    (λ h.
    datum_told c.args.from.now c.args.word c.write_word.new.left c.write_word.new.out c.args.out.now c.append.new.self
    (subst (λ before. WordWritten c.args.from.now.words.now c.args.word most_parts before c.write_word.new.out c.write_word.new.left) c.new-text.ensures
    c.in-Ok.ensures.writes)
    (h ∙ ap (λ x. c.args.out.now ++ x) c.as_slice.ensures))
    c.append.ensures.ok

pub returns-in-Err-Unwritten : goal.returns-in-Err-Unwritten
returns-in-Err-Unwritten c =
    on_ok_weaker c.append_class_name.result
    (λ h.
    other_told c.args.from.now c.args.word c.class_of.result c.args.out.now c.push.new.self c.append_class_name.new.out c.requires
    (rw c.in-Err-Unwritten.field-0-is at c.in-Err-Unwritten.ensures.halts) c.class_of.ensures c.in_ok-push-in-Err-Unwritten.ensures.ok h)
    c.append_class_name.ensures
