-- A part is the method, or the method is behind it.
use Rattle.std.proofs.Common.{ap, sym, ◌∙◌, drop, ◌+◌}
use Rattle.base.specs.model.DataRest.{rest_at}
use Rattle.flat_language.specs.Scope.{captured_method}
use Rattle.flat_conversion.proofs.Captured.{first_method, no_method}
use Rattle.flat_conversion.proofs.places.captured_method.Goals as goal

pub returns-in-Some-method_at : goal.returns-in-Some-method_at
returns-in-Some-method_at c =
    let ps = c.args.parts.now in
    let p = c.in-Some.part.now in
    first_method p (drop (c.loop-at.at + 1) ps) c.loop-at.at c.in-Some-method_at.place c.in-Some-method_at.ensures
    ∙ ap (λ qs. captured_method qs c.loop-at.at) (sym (rest_at ps c.loop-at.at p c.in-Some.ensures))
    ∙ c.loop-at.invariant

pub loop-at-preserved : goal.loop-at-preserved
loop-at-preserved c =
    let ps = c.args.parts.now in
    let p = c.in-Some.part.now in
    sym (no_method p (drop (c.loop-at.at + 1) ps) c.loop-at.at c.in_default-method_at.ensures)
    ∙ ap (λ qs. captured_method qs c.loop-at.at) (sym (rest_at ps c.loop-at.at p c.in-Some.ensures))
    ∙ c.loop-at.invariant
