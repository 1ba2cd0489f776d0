-- A part more.
use Rattle.std.proofs.Common.{ap, ◌∙◌, ◌++◌, ◌∷◌, [], ◌-◌}
use Rattle.flat_language.specs.Scope.{captured_exits}
use Rattle.flat_conversion.proofs.Captured.{exit_before}
use Rattle.flat_conversion.proofs.places.captured_exits.Goals as goal

pub loop-at-preserved : goal.loop-at-preserved
loop-at-preserved c =
    let p = c.in-Some.part.now in
    c.in_ok-captured_exit.ensures
    ∙ ap (λ ys. captured_exits (p ∷ []) (c.loop-at.at - 1) ++ ys) c.loop-at.invariant
    ∙ exit_before c.args.parts.now c.loop-at.at p c.loop-at-test.true c.in-Some.ensures
