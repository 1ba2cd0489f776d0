-- It is known of as many procedures as were looked at.
use Rattle.std.proofs.Common.{◌≡◌, [], ◌∷◌, take}
use Rattle.std.specs.Prelude.{slice_get, slice_index}
use Rattle.back_program_code.specs.Joined.{joined}
use Rattle.back_program_code.specs.Shapes.{listed, shape_nears}
use Rattle.back_program_code.proofs.nears.all_nears.Given as goal

abbrev pub invariant-loop-number : goal.invariant-loop-number
invariant-loop-number l =
    l.nears
    ≡ joined (λ number s. shape_nears l.front l.entries (slice_index l.entries number) (listed (slice_get l.lefts number)) s ∷ []) 0 (take l.number l.shapes)
