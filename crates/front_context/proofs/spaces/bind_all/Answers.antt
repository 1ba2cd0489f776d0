-- One thing after another.
use Rattle.std.proofs.Common.{◌∷◌, [], ◌++◌, sym, ap, ◌∙◌, take, arith}
use Rattle.std.proofs.lemmas.List.{take_all, take_more}
use Rattle.front_context.specs.Spaces.{with_all, with_one}
use Rattle.front_context.proofs.Places.{with_more}
use Rattle.front_context.proofs.spaces.bind_all.Goals as goal

pub loop-one-preserved : goal.loop-one-preserved
loop-one-preserved c =
    c.in_ok-bind.ensures
    ∙ ap (with_one c.one-item.result) c.loop-one.invariant
    ∙ sym (ap (λ bs. with_all bs c.args.spaces.now)
    (take_more c.args.more.now c.loop-one.one-index c.one-item.result c.loop-one-test.true ∙ ap (λ b. take c.loop-one.one-index c.args.more.now ++ b ∷ []) (sym c.one-item.is))
    ∙ with_more (take c.loop-one.one-index c.args.more.now) (c.one-item.result ∷ []) c.args.spaces.now)

pub returns : goal.returns
returns c =
    c.loop-one.invariant ∙ ap (λ bs. with_all bs c.args.spaces.now) (take_all c.loop-one.one-index c.args.more.now (omega (arith, c.loop-one-test.false)))
