-- Whether the jump of a line is near, from its spot with all jumps far.
use Rattle.std.specs.Prelude.{◌≡◌, ℕ, ◌+◌, Bool, false, List, length}
use Rattle.mid_code.specs.declared.operation.Callee.TheVariants.{Procedure}
use Rattle.mid_code.specs.declared.operation.Operation.TheVariants.{Call}
use Rattle.mid_lines.specs.declared.line.Line.{Line}
use Rattle.mid_lines.specs.declared.line.Line.TheVariants.{Do, Branch, Jump}
use Rattle.back_layout.specs.Layout.{is_near_branch, is_near_jump, line_is_near}
use Rattle.back_places.specs.declared.place.Place.{Place}
use Rattle.back_places.specs.Places.{Located}
use Rattle.back_emit.specs.declared.spots.Spot.{Spot}
use Rattle.back_allocation.specs.Names.{named_line}
use Rattle.back_emit.specs.Agree.{AgreesAt}
use Rattle.back_emit.specs.PlacedCode.{placed_before_call, placed_tested}

abbrev pub placed_is_near : (places : List Place) → Spot → Line → Bool
placed_is_near places s (Do (Call to (Procedure n) arguments)) = is_near_jump (s.at + length (placed_before_call places s (Procedure n) arguments)) s.to
placed_is_near places s (Branch t otherwise) = is_near_branch (s.at + length (placed_tested places s t.first t.second)) s.to
placed_is_near places s (Jump to) = is_near_jump s.at s.to
placed_is_near places s x = false

-- where the spot says what was decided, the layout takes the jump as near
abbrev pub LawOfPlacedNear : Type 0
LawOfPlacedNear =
    (l : Located) (places : List Place) (number frame line : ℕ) (s : Spot) (x : Line) (read given : ℕ → ℕ) → AgreesAt l places number frame line s x read given
    → line_is_near l number line x ≡ placed_is_near places s (named_line read given x)
