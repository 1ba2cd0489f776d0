-- A row more is noted, before those that are.
use Rattle.std.proofs.Common.{◌≡◌, ◌+◌, ◌-◌, ◌≤◌, drop, length, subst, arith}
use Rattle.eval_store.specs.Tables.{IsNoting}
use Rattle.eval_store.proofs.Named.{one_noted, no_word}
use Rattle.eval_store.proofs.functions.by_name.Goals as goal

pub loop-at-preserved-in-Continue-1 : goal.loop-at-preserved-in-Continue-1
loop-at-preserved-in-Continue-1 c =
    let same : c.loop-at.at ≡ c.loop-at.at - 1 + 1 = omega arith in
    record {
      inside = omega (arith, c.loop-at.invariant.inside);
      noted = one_noted c.args.spellings c.args.rows.now c.args.words.now (c.loop-at.at - 1) c.loop-at.functions c.set.new.self c.in-Some.row.now c.in-Some-get.word.now c.in-Some.ensures c.in-Some-get.ensures
          (subst (λ k. IsNoting c.args.spellings (drop k c.args.rows.now) (drop k c.args.words.now) c.loop-at.functions) same c.loop-at.invariant.noted)
          c.in_ok-set.ensures;
    }

pub loop-at-preserved : goal.loop-at-preserved
loop-at-preserved c =
    let same : c.loop-at.at ≡ c.loop-at.at - 1 + 1 = omega arith in
    let past : length c.args.words.now ≤ c.loop-at.at - 1 = omega (arith, c.in_default-get.ensures) in
    record {
      inside = omega (arith, c.loop-at.invariant.inside);
      noted = no_word c.args.spellings c.args.rows.now c.args.words.now (c.loop-at.at - 1) c.loop-at.functions past
          (subst (λ k. IsNoting c.args.spellings (drop k c.args.rows.now) (drop k c.args.words.now) c.loop-at.functions) same c.loop-at.invariant.noted);
    }
