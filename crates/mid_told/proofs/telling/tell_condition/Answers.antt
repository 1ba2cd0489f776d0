-- What is told of the slots is told of the condition.
use Rattle.std.proofs.Common.{subst}
use Rattle.std.proofs.lemmas.Result.{IfOk-weaker}
use Rattle.mid_told.specs.declared.telling.Memory.{Memory}
use Rattle.mid_told.specs.Telling.{SlotsTold}
use Rattle.mid_told.proofs.Tells.{condition_told}
use Rattle.mid_told.proofs.telling.tell_condition.Goals as goal

pub returns : goal.returns
returns c =
    let from : Memory = record { words = c.args.words; names = c.args.names; classes = c.args.classes } in
    IfOk-weaker c.behind_colon.result _ _
    (λ told is.
    condition_told from c.args.word c.tell_slots.new.out told
    (subst (λ before. SlotsTold from c.args.word before c.tell_slots.new.out) c.new-text.ensures c.in_ok-tell_slots.ensures) is)
    c.behind_colon.ensures
