use Rattle.std.proofs.Common.{Bool, sym, ap, ◌∙◌}
use Rattle.std.specs.Prelude.{◌&&◌}
use Rattle.back_emit.proofs.InOrder.{order_more}
use Rattle.back_emit.proofs.in_order.are_in_order.Goals as goal
use Rattle.back_emit.proofs.in_order.are_in_order.Goals.{then-ordered, else-ordered}

pub loop-i-preserved : goal.loop-i-preserved
loop-i-preserved c =
    let unwritten = c.is_unwritten-unwritten.result in
    let more =
    order_more c.args.places.now c.loop-i.i c.in-Some.register.now c.args.arguments.now c.place_at.result c.loop-i.ordered unwritten c.place_at.ensures
    c.is_unwritten-unwritten.ensures c.loop-i.invariant c.in-Some.ensures in
    elim c.if-ordered.branch [
      | then-ordered w ↦ w.ordered-is ∙ sym (ap (λ (b : Bool). b && unwritten) w.if-ordered.true) ∙ more
      | else-ordered w ↦ w.ordered-is ∙ w.if-ordered.false ∙ sym (ap (λ (b : Bool). b && unwritten) w.if-ordered.false) ∙ more
    ]
