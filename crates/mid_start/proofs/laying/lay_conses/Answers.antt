-- A cons more, before those that are laid.
use Rattle.std.proofs.Common.{◌≡◌, ◌+◌, ◌-◌, ◌∷◌, [], drop, length, sym, ap, ◌∙◌, length-append, arith}
use Rattle.std.proofs.lemmas.List.{drop_all}
use Rattle.base.specs.model.DataRest.{rest_at}
use Rattle.mid_start.proofs.LaidWords.{grown_same, grown_both, appended_of}
use Rattle.mid_start.proofs.Made.{no_cons_laid, cons_more}
use Rattle.mid_start.proofs.laying.lay_conses.Goals as goal

pub loop-at-init : goal.loop-at-init
loop-at-init c =
    let none : drop c.len-at.result c.args.cars.now ≡ [] = drop_all c.len-at.result c.args.cars.now (omega (arith, c.len-at.ensures)) in
    record {
      inside = omega (arith, c.len-at.ensures);
      grown = grown_same c.args.words.now;
      count = omega (arith, c.len-at.ensures);
      laid = rw none (no_cons_laid c.args.words.now c.args.end);
    }

pub loop-at-preserved : goal.loop-at-preserved
loop-at-preserved c =
    let same : c.loop-at.at ≡ c.loop-at.at - 1 + 1 = omega arith in
    let rest : drop (c.loop-at.at - 1) c.args.cars.now ≡ c.in-Some.car.now ∷ drop c.loop-at.at c.args.cars.now =
    rest_at c.args.cars.now (c.loop-at.at - 1) c.in-Some.car.now c.in-Some.ensures ∙ ap (λ k. c.in-Some.car.now ∷ drop k c.args.cars.now) (sym same) in
    let more = appended_of c.loop-at.words c.lay_cons.new.words (c.in-Some.car.now ∷ c.loop-at.list ∷ []) c.in_ok-list.ensures.ok in
    record {
      inside = omega (arith, c.loop-at.invariant.inside);
      grown = grown_both c.args.words.now c.loop-at.words c.lay_cons.new.words c.loop-at.invariant.grown c.in_ok-list.ensures.grown;
      count =
          omega (arith, c.loop-at.invariant.count, ap (λ vs. length vs) more.words, length-append c.loop-at.words.words (c.in-Some.car.now ∷ c.loop-at.list ∷ []));
      laid =
          rw rest
          (cons_more (drop c.loop-at.at c.args.cars.now) c.in-Some.car.now c.args.end c.loop-at.list c.in_ok-list.list c.args.words.now c.loop-at.words
          c.lay_cons.new.words c.loop-at.invariant.laid more c.in_ok-list.ensures.word);
    }
