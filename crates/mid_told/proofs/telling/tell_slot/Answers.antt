use Rattle.std.proofs.lemmas.Result.{on_ok_weaker}
use Rattle.mid_told.proofs.Tells.{unbound_told, bound_told}
use Rattle.mid_told.proofs.telling.tell_slot.Goals as goal

pub returns-then-word-eq-UNBOUND : goal.returns-then-word-eq-UNBOUND
returns-then-word-eq-UNBOUND c =
    on_ok_weaker c.append.result
    (λ h. unbound_told c.args.from.now c.args.word c.args.out.now c.append.new.self c.if-word-eq-UNBOUND.true h) c.append.ensures.ok

pub returns-else-word-eq-UNBOUND : goal.returns-else-word-eq-UNBOUND
returns-else-word-eq-UNBOUND c =
    on_ok_weaker c.tell_value.result
    (λ h. bound_told c.args.from.now c.args.word c.args.out.now c.tell_value.new.out c.if-word-eq-UNBOUND.false h) c.tell_value.ensures
