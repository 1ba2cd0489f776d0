-- From the last method on.
use Rattle.std.proofs.Common.{◌+◌, sym, ap, ◌∙◌, arith}
use Rattle.lang_meaning.specs.declared.program.MethodRow.{MethodRow}
use Rattle.lang_meaning.specs.Classes.{applies, more_specific}
use Rattle.lang_dispatch.specs.OfClasses.{with_classes}
use Rattle.lang_dispatch.proofs.Picking.{applicable_turn, applicable_pass}
use Rattle.lang_dispatch.proofs.order.applicable.Goals as goal
use Rattle.lang_dispatch.proofs.order.applicable.Goals.{then-applies+in-Ok, else-applies}

pub loop-step-preserved : goal.loop-step-preserved
loop-step-preserved c =
    λ k e.
    let before = λ (m n : MethodRow). more_specific (with_classes c.args.classes.now) c.args.tuple.now m.classes n.classes in
    let test = λ (m : MethodRow). applies (with_classes c.args.classes.now) c.args.tuple.now m.classes in
    let whole = c.loop-step.invariant (k + 1) (omega arith) in
    elim c.if-applies.branch [
      | then-applies+in-Ok w ↦
          let put = rw w.in-Ok.is at w.insert.ensures.items in
          applicable_turn before test c.args.generic.now.methods c.loop-step.order.items c.if-applies.order.items k _ w.place_for-place.result c.in-Some.method.now
          (omega (arith, c.len-count.ensures)) c.in-Some.ensures (sym c.applies.ensures ∙ w.if-applies.true) whole
          (w.place_for-place.ensures.place _ whole) (ap (λ v. v.items) w.order-is ∙ put)
      | else-applies w ↦
          applicable_pass before test c.args.generic.now.methods c.loop-step.order.items c.if-applies.order.items k _ c.in-Some.method.now
          (omega (arith, c.len-count.ensures)) c.in-Some.ensures (sym c.applies.ensures ∙ w.if-applies.false) whole (ap (λ v. v.items) w.order-is)
    ]

pub returns : goal.returns
returns c = c.loop-step.invariant 0 (omega (arith, c.len-count.ensures))
