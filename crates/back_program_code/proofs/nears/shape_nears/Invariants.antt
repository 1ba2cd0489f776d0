-- It is known of as many lines as were looked at.
use Rattle.std.proofs.Common.{◌≡◌, [], ◌∷◌, take}
use Rattle.back_emit.specs.PlacedNear.{placed_is_near}
use Rattle.back_program_code.specs.Joined.{joined}
use Rattle.back_program_code.specs.Shapes.{spot_in}
use Rattle.back_program_code.proofs.nears.shape_nears.Given as goal

abbrev pub invariant-loop-i : goal.invariant-loop-i
invariant-loop-i l =
    l.nears ≡ joined (λ line x. placed_is_near l.shape.chosen.places (spot_in l.fn.front l.entries l.fn.at [] l.lefts l.shape 0 line x) x ∷ []) 0 (take l.i l.shape.chosen.lines)
