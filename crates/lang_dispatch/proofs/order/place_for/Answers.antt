-- Method by method.
use Rattle.std.proofs.Common.{sym, ◌∙◌, arith}
use Rattle.lang_meaning.specs.declared.program.MethodRow.{MethodRow}
use Rattle.lang_meaning.specs.Classes.{more_specific}
use Rattle.lang_dispatch.specs.OfClasses.{with_classes}
use Rattle.lang_dispatch.proofs.Picking.{place_here, place_later, item_at, picked_at, picked_past}
use Rattle.lang_dispatch.proofs.order.place_for.Goals as goal

pub returns-in_default-get-clause-place : goal.returns-in_default-get-clause-place
returns-in_default-get-clause-place c =
    λ picked x.
    let there = item_at c.deref.result.now c.args.order.now.items c.loop-at.at c.in-Some.number.now c.deref.ensures.value c.in-Some.ensures.lookup.3.0 c.in-Some.ensures.lookup.1 in
    absurd (picked_past c.args.generic.now.methods picked c.args.order.now.items c.loop-at.at c.in-Some.number.now x there c.in_default-get.ensures)

pub returns-then-is_more_specific-clause-place : goal.returns-then-is_more_specific-clause-place
returns-then-is_more_specific-clause-place c =
    λ picked x.
    let test = λ (n : MethodRow). more_specific (with_classes c.args.classes.now) c.args.tuple.now c.args.method.now.classes n.classes in
    let there = item_at c.deref.result.now c.args.order.now.items c.loop-at.at c.in-Some.number.now c.deref.ensures.value c.in-Some.ensures.lookup.3.0 c.in-Some.ensures.lookup.1 in
    let here = picked_at c.args.generic.now.methods picked c.args.order.now.items c.loop-at.at c.in-Some.number.now c.in-Some-get.other.now x there c.in-Some-get.ensures in
    let first = place_here test picked c.loop-at.at c.in-Some-get.other.now here (sym c.is_more_specific.ensures ∙ c.if-is_more_specific.true) in
    omega (arith, first, c.loop-at.invariant picked x)

pub loop-at-preserved : goal.loop-at-preserved
loop-at-preserved c =
    λ picked x.
    let test = λ (n : MethodRow). more_specific (with_classes c.args.classes.now) c.args.tuple.now c.args.method.now.classes n.classes in
    let there = item_at c.deref.result.now c.args.order.now.items c.loop-at.at c.in-Some.number.now c.deref.ensures.value c.in-Some.ensures.lookup.3.0 c.in-Some.ensures.lookup.1 in
    let here = picked_at c.args.generic.now.methods picked c.args.order.now.items c.loop-at.at c.in-Some.number.now c.in-Some-get.other.now x there c.in-Some-get.ensures in
    let later = place_later test picked c.loop-at.at c.in-Some-get.other.now here (sym c.is_more_specific.ensures ∙ c.if-is_more_specific.false) in
    omega (arith, later, c.loop-at.invariant picked x)
