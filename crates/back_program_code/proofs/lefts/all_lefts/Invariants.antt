-- What is left is counted in as many procedures as were looked at.
use Rattle.std.proofs.Common.{◌≡◌, [], ◌∷◌, length, take}
use Rattle.std.specs.Prelude.{slice_get}
use Rattle.back_program_code.specs.Joined.{joined}
use Rattle.back_program_code.specs.Shapes.{listed, shape_lefts}
use Rattle.back_program_code.proofs.lefts.all_lefts.Given as goal

abbrev pub invariant-loop-number : goal.invariant-loop-number
invariant-loop-number l =
    (l.lefts ≡ joined (λ number s. shape_lefts l.front (listed (slice_get l.nears number)) s ∷ []) 0 (take l.number l.shapes)) × (length l.lefts ≡ l.number)
