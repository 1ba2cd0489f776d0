-- A cons more, before those that are made.
use Rattle.std.proofs.Common.{◌≡◌, ◌+◌, ◌-◌, drop, subst, arith}
use Rattle.eval_store.specs.Words.{value_of_word, values_of}
use Rattle.eval_store.specs.Recipes.{IsMadeBy, linked}
use Rattle.eval_store.proofs.Made.{linked_at}
use Rattle.eval_store.proofs.making.add_list.Goals as goal

pub loop-at-preserved : goal.loop-at-preserved
loop-at-preserved c =
    let same : c.loop-at.at ≡ c.loop-at.at - 1 + 1 = omega arith in
    record {
      inside = omega (arith, c.loop-at.invariant.inside);
      made = linked_at c.args.words.now c.args.end (c.loop-at.at - 1) c.in-Some.ensures
          (subst (λ k. IsMadeBy value_of_word (λ names. linked (drop k (values_of names c.args.words.now)) (value_of_word names c.args.end)) c.args.store.now c.loop-at.store c.loop-at.list) same c.loop-at.invariant.made)
          c.in_ok-list.ensures;
    }

pub returns : goal.returns
returns c =
    let done : c.loop-at.at ≡ 0 = omega (arith, c.loop-at-test.false) in
    subst (λ k. IsMadeBy value_of_word (λ names. linked (drop k (values_of names c.args.words.now)) (value_of_word names c.args.end)) c.args.store.now c.loop-at.store c.loop-at.list) done c.loop-at.invariant.made
