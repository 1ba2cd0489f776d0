use Rattle.std.proofs.lemmas.Result.{on_ok_weaker}
use Rattle.mid_told.proofs.Tells.{class_value_told}
use Rattle.mid_told.proofs.telling.tell_value.Goals as goal

pub returns-in-Some : goal.returns-in-Some
returns-in-Some c =
    on_ok_weaker c.append_class_name.result
    (λ h.
    class_value_told c.args.from.now c.args.word c.in-Some.class c.which_class.result c.args.out.now c.append_class_name.new.out c.which_class.ensures c.in-Some.is h)
    c.append_class_name.ensures
