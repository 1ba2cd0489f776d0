-- A part more.
use Rattle.std.proofs.Common.{ap, ◌∙◌, ◌++◌, ◌∷◌, [], refl}
use Rattle.flat_language.specs.Scope.{flat_part, flat_parts}
use Rattle.flat_conversion.specs.Places.{scope_of}
use Rattle.flat_conversion.proofs.Turns.{turn}
use Rattle.flat_conversion.proofs.places.Places.parts.Goals as goal

pub loop-at-preserved : goal.loop-at-preserved
loop-at-preserved c =
    let s = scope_of c.args.self.now in
    c.in_ok-push.ensures.ok
    ∙ ap (λ p. c.loop-at.made ++ p ∷ []) c.part.ensures
    ∙ turn (flat_parts s) (flat_part s) refl (λ x xs. refl) c.loop-at.made c.args.parts.now c.loop-at.at c.in-Some.part.now c.in-Some.ensures c.loop-at.invariant
