-- The steps that apply a function to words of a block, which stand while they run.
use Rattle.std.specs.Prelude.{ℕ, ◌+◌, ◌*◌, List, [], ◌∷◌, ◌++◌}
use Rattle.back_lowering.specs.declared.scope.SitePlace.{SitePlace}
use Rattle.back_lowering.specs.declared.placement.Placement.{Placement}
use Rattle.back_lowering.specs.Routines.{function_routine, generic_routine}
use Rattle.back_lowering.specs.Steps.{Steps, constant, load, call}
use Rattle.back_lowering.specs.Leaves.{site_stored}

-- a generic function, by the address of its words
abbrev pub generic_applied : Placement → (g count d : ℕ) → SitePlace → Steps
generic_applied at g count d site =
    site_stored site (d + count + 1) (d + count + 2)
    ++ (constant (d + count + 1) (at.generics + 4 * g) ∷ load (d + count + 1) (d + count + 1) 0 ∷ constant (d + count + 2) count
    ∷ call d (generic_routine at) ((d + count + 1) ∷ (d + count + 2) ∷ (d + count) ∷ []) ∷ [])

-- a function that is a value, in d
abbrev pub function_applied : Placement → (count d : ℕ) → SitePlace → Steps
function_applied at count d site =
    site_stored site (d + count + 2) (d + count + 3)
    ++ (constant (d + count + 2) count ∷ call d (function_routine at) (d ∷ (d + count + 2) ∷ (d + 1 + count) ∷ []) ∷ [])
