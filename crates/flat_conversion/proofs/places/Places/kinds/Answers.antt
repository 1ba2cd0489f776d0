-- A part more.
use Rattle.std.proofs.Common.{ap, ◌∙◌, ◌++◌, ◌∷◌, [], refl}
use Rattle.flat_language.specs.Scope.{kind_of, kinds_of}
use Rattle.flat_conversion.specs.Places.{scope_of}
use Rattle.flat_conversion.proofs.Turns.{turn}
use Rattle.flat_conversion.proofs.places.Places.kinds.Goals as goal

pub loop-at-preserved : goal.loop-at-preserved
loop-at-preserved c =
    let s = scope_of c.args.self.now in
    c.in_ok-push.ensures.ok
    ∙ ap (λ k. c.loop-at.kinds ++ k ∷ []) c.kind.ensures
    ∙ turn (kinds_of s) (kind_of s) refl (λ x xs. refl) c.loop-at.kinds c.args.parts.now c.loop-at.at c.in-Some.part.now c.in-Some.ensures c.loop-at.invariant
