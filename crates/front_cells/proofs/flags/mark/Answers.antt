-- A method more, and none.
use Rattle.std.proofs.Common.{◌≡◌, true, length, ap, subst, rules, arith}
use Rattle.lang_meaning.specs.Cells.{argument_classes}
use Rattle.front_cells.specs.Flags.{IsSet}
use Rattle.front_cells.proofs.Flagging.{item_at, class_of, flag_set, all_flags}
use Rattle.front_cells.proofs.flags.mark.Goals as goal

pub loop-method-preserved : goal.loop-method-preserved
loop-method-preserved c =
    let ms = c.args.generic.now.methods in
    let items : c.as_slice-method-items.result.now ≡ ms = search rules in
    let there = item_at c.as_slice-method-items.result.now ms c.loop-method.method-index c.method-item.result items c.loop-method-test.true c.method-item.is in
    let set : IsSet (class_of c.args.argument c.method-item.result) true c.loop-method.flags c.set.new.flags =
    subst (λ k. IsSet k true c.loop-method.flags c.set.new.flags) c.class_at.ensures c.set.ensures in
    flag_set c.args.argument ms c.loop-method.method-index c.method-item.result (argument_classes c.args.generic.now c.args.argument) c.loop-method.flags c.set.new.flags there set c.loop-method.invariant

pub returns : goal.returns
returns c =
    let ms = c.args.generic.now.methods in
    let items : c.as_slice-method-items.result.now ≡ ms = search rules in
    let same = ap length items in
    all_flags c.args.argument ms c.loop-method.method-index (argument_classes c.args.generic.now c.args.argument) c.loop-method.flags (omega (arith, c.loop-method-test.false)) c.loop-method.invariant
