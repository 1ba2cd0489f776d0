-- Method by method.
use Rattle.std.proofs.Common.{◌≡◌, ◌==◌, ◌≤◌, true, false, length, ◌∙◌, sym, ap, arith}
use Rattle.std.proofs.lemmas.Bool.Decides.{nat_tests}
use Rattle.lang_meaning.specs.declared.program.MethodRow.{MethodRow}
use Rattle.lang_meaning.specs.declared.program.Qualifier.TheVariants.{Primary}
use Rattle.lang_meaning.specs.Classes.{applies, is_qualifier}
use Rattle.lang_dispatch.specs.OfClasses.{with_classes}
use Rattle.lang_dispatch.proofs.Picking.{item_at}
use Rattle.lang_dispatch.proofs.ChainCounts.{count_of, chain_length_is}
use Rattle.lang_dispatch.proofs.MethodTurns.{found_turn, pass_turn, at_most_one, counted_all}
use Rattle.lang_dispatch.proofs.applying.chain_length.Goals as goal
use Rattle.lang_dispatch.proofs.applying.chain_length.Goals.{then-applies, else-applies}

pub loop-method-preserved : goal.loop-method-preserved
loop-method-preserved c =
    let there = item_at c.as_slice-method-items.result.now c.args.generic.now.methods c.loop-method.method-index c.method-item.result c.as_slice-method-items.ensures c.loop-method-test.true c.method-item.is in
    let p = λ (m : MethodRow). applies (with_classes c.args.classes.now) c.args.tuple.now m.classes in
    elim c.if-applies.branch [
      | then-applies w ↦
          let here : p c.method-item.result ≡ true = sym c.applies.ensures ∙ w.if-applies.true in
          let turn = found_turn p c.args.generic.now.methods c.loop-method.method-index c.method-item.result there here in
          let one = at_most_one (is_qualifier Primary c.method-item.result.qualifier) in
          let counted = w.primary_count-primary.ensures in
          record {
            fits = omega (arith, w.found-is);
            primaries = omega (arith, w.found-is, w.primary-is, one, counted);
            all = omega (arith, w.found-is, turn.0);
            some = omega (arith, w.primary-is, turn.1, counted);
          }
      | else-applies w ↦
          let out : p c.method-item.result ≡ false = sym c.applies.ensures ∙ w.if-applies.false in
          let turn = pass_turn p c.args.generic.now.methods c.loop-method.method-index c.method-item.result there out in
          record {
            fits = omega (arith, w.found-is);
            primaries = omega (arith, w.found-is, w.primary-is);
            all = omega (arith, w.found-is, ap length turn);
            some = omega (arith, w.primary-is, ap (count_of Primary) turn);
          }
    ]

pub returns-then-primary-eq0 : goal.returns-then-primary-eq0
returns-then-primary-eq0 c =
    let p = λ (m : MethodRow). applies (with_classes c.args.classes.now) c.args.tuple.now m.classes in
    let past : length c.args.generic.now.methods ≤ c.loop-method.method-index = omega (arith, ap length c.as_slice-method-items.ensures) in
    let none : (c.loop-method.primary == 0) ≡ true = grind (arith, nat_tests) in
    let whole = counted_all p c.args.generic.now.methods c.loop-method.method-index c.loop-method.found c.loop-method.primary past c.loop-method.invariant.all c.loop-method.invariant.some in
    (rw none at whole) ∙ sym (chain_length_is (with_classes c.args.classes.now) c.args.generic.now c.args.tuple.now)

pub returns-else-primary-eq0 : goal.returns-else-primary-eq0
returns-else-primary-eq0 c =
    let p = λ (m : MethodRow). applies (with_classes c.args.classes.now) c.args.tuple.now m.classes in
    let past : length c.args.generic.now.methods ≤ c.loop-method.method-index = omega (arith, ap length c.as_slice-method-items.ensures) in
    let some : (c.loop-method.primary == 0) ≡ false = grind (arith, nat_tests) in
    let whole = counted_all p c.args.generic.now.methods c.loop-method.method-index c.loop-method.found c.loop-method.primary past c.loop-method.invariant.all c.loop-method.invariant.some in
    (rw some at whole) ∙ sym (chain_length_is (with_classes c.args.classes.now) c.args.generic.now c.args.tuple.now)
