-- A part more.
use Rattle.std.proofs.Common.{ap, ◌∙◌, ◌++◌, ◌∷◌, [], ◌-◌}
use Rattle.flat_language.specs.Scope.{captured_variables}
use Rattle.flat_conversion.specs.Places.{scope_of}
use Rattle.flat_conversion.proofs.Captured.{variable_before}
use Rattle.flat_conversion.proofs.places.Places.captured_variables.Goals as goal

pub loop-at-preserved : goal.loop-at-preserved
loop-at-preserved c =
    let s = scope_of c.args.self.now in
    let p = c.in-Some.part.now in
    c.in_ok-captured_variable.ensures
    ∙ ap (λ ys. captured_variables s (p ∷ []) (c.loop-at.at - 1) ++ ys) c.loop-at.invariant
    ∙ variable_before s c.args.parts.now c.loop-at.at p c.loop-at-test.true c.in-Some.ensures
