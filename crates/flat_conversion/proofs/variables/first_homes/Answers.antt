-- A variable more.
use Rattle.std.proofs.Common.{ap, ◌∙◌, refl, take, arith, ◌≡◌}
use Rattle.std.specs.Prelude.{min}
use Rattle.std.proofs.lemmas.List.{take_min}
use Rattle.flat_conversion.specs.declared.variables.NewVariable.{NewVariable}
use Rattle.flat_conversion.specs.NewVariables.{homes_of_new}
use Rattle.flat_conversion.proofs.Turns.{turn, first_of}
use Rattle.flat_conversion.proofs.variables.first_homes.Goals as goal

pub loop-at-preserved : goal.loop-at-preserved
loop-at-preserved c =
    c.in_ok-push.ensures.ok
    ∙ turn homes_of_new (λ (x : NewVariable). x.home) refl (λ x xs. refl) c.loop-at.homes c.args.news.now c.loop-at.at c.in-Some.new.now c.in-Some.ensures c.loop-at.invariant

pub returns : goal.returns
returns c =
    let news = c.args.news.now in
    let all : c.loop-at.at ≡ c.min-at-end.result = omega (arith, c.loop-at-test.false, c.loop-at.auto.at-end) in
    c.loop-at.invariant
    ∙ ap (λ k. homes_of_new (take k news)) (all ∙ c.min-at-end.ensures ∙ ap (λ k. min c.args.count k) c.len.ensures)
    ∙ ap homes_of_new (take_min c.args.count news)
    ∙ first_of homes_of_new (λ (x : NewVariable). x.home) refl (λ x xs. refl) c.args.count news
