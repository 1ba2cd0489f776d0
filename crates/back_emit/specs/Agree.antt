-- When the spot of a line says what was decided: the code from the spot, of the line with names in the place of its registers, is then the code of the
-- line.
use Rattle.std.specs.Prelude.{◌≡◌, ℕ, ◌+◌, false, List, Option, Some, None, option_map}
use Rattle.mid_code.specs.declared.operation.Callee.TheVariants.{Procedure}
use Rattle.mid_code.specs.declared.operation.Operation.{Operation}
use Rattle.mid_code.specs.declared.operation.Operation.TheVariants as operation
use Rattle.mid_lines.specs.declared.line.Line.{Line}
use Rattle.mid_lines.specs.declared.line.Line.TheVariants.{Do, Branch, Jump, Lay}
use Rattle.back_places.specs.declared.place.Place.{Place}
use Rattle.back_places.specs.Places.{Located, way_at}
use Rattle.back_places.specs.LineCode.{line_code, behind_code}
use Rattle.back_allocation.specs.LineSteps.{line_gives}
use Rattle.back_allocation.specs.Names.{named_line}
use Rattle.back_allocation.specs.Places.{place_at}
use Rattle.back_emit.specs.declared.spots.Spot.{Spot}
use Rattle.back_emit.specs.Ways.{way_of}
use Rattle.back_emit.specs.PlacedCode.{placed_line, placed_behind}

-- the spot says where a call jumps
abbrev pub OperationGoes : (l : Located) (s : Spot) → Operation → Type 0
OperationGoes l s (operation.Call to (Procedure n) arguments) = l.entry_at n ≡ s.to
OperationGoes l s o = Unit {0}

-- and where a line jumps, or its landing
abbrev pub LineGoes : (l : Located) (number : ℕ) (s : Spot) → Line → Type 0
LineGoes l number s (Do o) = OperationGoes l s o
LineGoes l number s (Branch t otherwise) = l.line_at number otherwise ≡ s.to
LineGoes l number s (Jump to) = l.line_at number to ≡ s.to
LineGoes l number s (Lay block words landing) = l.line_at number landing ≡ s.to
LineGoes l number s x = Unit {0}

-- the word that a line gives goes to the place of its name
abbrev pub GoesToPlace : (places : List Place) → (target : Place) → Option ℕ → Type 0
GoesToPlace places target None = Unit {0}
GoesToPlace places target (Some to) = target ≡ place_at places to

-- the spot of a line, with the places of the names of registers, says what was decided
pub record AgreesAt (l : Located) (places : List Place) (number frame line : ℕ) (s : Spot) (x : Line) (read given : ℕ → ℕ) : Type 0 where
  pub source : (v : ℕ) → l.source number line v ≡ place_at places (read v)
  pub target : GoesToPlace places (l.target number line) (option_map given (line_gives x))
  pub linked : l.linked number line ≡ false
  pub line_is : line ≡ s.line
  pub way : way_at l number line ≡ way_of s.way
  pub next_way : way_at l number (line + 1) ≡ way_of s.next_way
  pub frame_is : frame ≡ s.frame
  pub near : l.near number line ≡ s.near
  pub at : l.line_at number line ≡ s.at
  pub next : l.line_at number (line + 1) ≡ s.next
  pub goes : LineGoes l number s x
  pub table : l.table_at number line ≡ s.table
  pub arguments_at : l.arguments_at ≡ s.arguments_at
  pub procedures_at : l.procedures_at ≡ s.procedures_at
  pub full_at : l.full_at ≡ s.full_at

-- the code of the line with names is then the code of the line
abbrev pub LawOfSpots : Type 0
LawOfSpots =
    (l : Located) (places : List Place) (number frame line : ℕ) (s : Spot) (x : Line) (read given : ℕ → ℕ) → AgreesAt l places number frame line s x read given
    → (line_code l number frame line x ≡ placed_line places s (named_line read given x))
    × (behind_code l number line x ≡ placed_behind places s (named_line read given x))
