-- One argument more, or one whose words do not fit.
use Rattle.std.proofs.Common.{◌≡◌, ◌+◌, ◌*◌, ◌^◌, ◌≤◌, ◌++◌, ◌∷◌, [], inr, drop, sym, ap, ◌∙◌, append-nil, arith}
use Rattle.std.proofs.lemmas.List.{drop_all}
use Rattle.back_relation.specs.Chains.{specialised_words}
use Rattle.back_words.specs.Generics.{specialised_at}
use Rattle.back_laying.specs.Grouped.{arguments_of}
use Rattle.back_laying.proofs.MapWords.{specialised_more, argument_too_large}
use Rattle.back_laying.proofs.maps.push_specialised.Goals as goal

pub loop-at-preserved : goal.loop-at-preserved
loop-at-preserved c =
    let product : c.args.classes * (c.loop-at.at + 1) ≡ c.args.classes * c.loop-at.at + c.args.classes = grind arith in
    record {
      words = λ program g many.
          specialised_more program g c.args.specialised.now c.loop-at.words c.push-in-loop-at.new.self c.loop-at.at c.in-Some.item.now
          c.in_ok-behind.field-0 c.loop-at.address c.in_ok-address.address c.in-Some.ensures (omega (arith, c.in_ok-behind.ensures.ok))
          (c.in_ok-push-2.ensures.ok ∙ ap (λ l. l ++ c.loop-at.address ∷ []) c.in_ok-push.ensures.ok)
          (c.in_ok-address.ensures.ok ∙ ap (λ n. c.loop-at.address + 4 * n) (sym many))
          ∙ c.loop-at.invariant.words program g many;
      address = omega (arith, c.in_ok-address.ensures.ok, c.loop-at.invariant.address, product);
    }

pub returns-clause-words : goal.returns-clause-words
returns-clause-words c =
    λ program g many.
    let none : drop c.loop-at.at c.args.specialised.now ≡ [] = drop_all c.loop-at.at c.args.specialised.now (omega (arith, c.len-at-end.ensures)) in
    sym (append-nil c.loop-at.words)
    ∙ ap (λ xs. c.loop-at.words ++ specialised_words (specialised_at program g (arguments_of xs) c.loop-at.address)) (sym none)
    ∙ c.loop-at.invariant.words program g many

pub returns-in_err-behind-clause-too_large : goal.returns-in_err-behind-clause-too_large
returns-in_err-behind-clause-too_large c =
    λ e program g.
    let large : 2 ^ 31 ≤ 4 * c.in-Some.item.now.argument = omega (arith, c.in_err-behind.ensures.too_large) in
    inr (argument_too_large program g c.args.specialised.now c.loop-at.at c.in-Some.item.now c.args.maps c.in-Some.ensures large)
