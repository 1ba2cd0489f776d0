-- One class more, or one whose word does not fit.
use Rattle.std.proofs.Common.{◌≡◌, ◌*◌, ◌++◌, ◌∷◌, [], ap, ◌∙◌, arith}
use Rattle.back_laying.specs.TooLarge.{IsLarge}
use Rattle.back_laying.proofs.Large.{some_mapped}
use Rattle.back_laying.proofs.Lists.{mapped_more}
use Rattle.back_laying.proofs.MapWords.{product_fits, product_large}
use Rattle.back_laying.proofs.maps.push_map.Goals as goal

pub loop-at-preserved : goal.loop-at-preserved
loop-at-preserved c =
    λ tuples is.
    let word : c.in_ok-behind.field-0 ≡ 4 * (c.in-Some.number.now * tuples) =
    product_fits c.in-Some.number.now c.args.stride tuples c.saturating_mul.result c.in_ok-behind.field-0 is c.saturating_mul.ensures c.in_ok-behind.ensures.ok (omega arith) in
    mapped_more (λ number. 4 * (number * tuples)) c.args.words.now c.loop-at.words c.push.new.self c.args.numbers.now c.loop-at.at c.in-Some.number.now
    c.in-Some.ensures (c.loop-at.invariant tuples is) (c.in_ok-push.ensures.ok ∙ ap (λ w. c.loop-at.words ++ w ∷ []) word)

pub returns-in_err-behind-clause-too_large : goal.returns-in_err-behind-clause-too_large
returns-in_err-behind-clause-too_large c =
    λ e tuples is.
    some_mapped IsLarge (λ number. 4 * (number * tuples)) c.args.numbers.now c.loop-at.at c.in-Some.number.now c.in-Some.ensures
    (product_large c.in-Some.number.now c.args.stride tuples c.saturating_mul.result is c.saturating_mul.ensures c.in_err-behind.ensures.too_large)
