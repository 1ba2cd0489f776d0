-- How many words are left from each line on, where registers have these places: what `back_layout` counts, from the spots of lines.
use Rattle.std.specs.Prelude.{◌≡◌, ℕ, ◌+◌, Bool, false, List, [], ◌∷◌, length, slice_get, slice_index, Option, Some, None}
use Rattle.mid_lines.specs.declared.line.Line.{Line}
use Rattle.mid_lines.specs.declared.line.Line.TheVariants.{Jump}
use Rattle.back_places.specs.declared.place.Place.{Place}
use Rattle.back_places.specs.Places.{Located}
use Rattle.back_allocation.specs.Names.{named_line}
use Rattle.back_layout.specs.Sizes.{unplaced, jump_size, goes_over_nothing, rests}
use Rattle.back_emit.specs.declared.spots.Spot.{Spot}
use Rattle.back_emit.specs.declared.spots.Sizing.{Sizing}
use Rattle.back_emit.specs.declared.ways.FrameWay.{FrameWay}
use Rattle.back_emit.specs.declared.ways.FrameWay.TheVariants.{NoWay}
use Rattle.back_emit.specs.PlacedCode.{placed_line, placed_behind}
use Rattle.back_emit.specs.Fits.{FitsLine}
use Rattle.back_emit.specs.Agree.{AgreesAt}

-- the way at a line; none where it is not there
abbrev pub way_in : Option FrameWay → FrameWay
way_in None = NoWay
way_in (Some way) = way

-- whether the jump at a line is near; not where it is not there
abbrev pub near_in : Option Bool → Bool
near_in None = false
near_in (Some near) = near

module _ (z : Sizing) (ways : List FrameWay) (nears : List Bool) where
  -- the spot of a line with no positions yet
  abbrev pub sizing_spot : (line : ℕ) → Spot
  sizing_spot line = record {
    line = line;
    way = way_in (slice_get ways line);
    next_way = way_in (slice_get ways (line + 1));
    frame = z.frame;
    near = near_in (slice_get nears line);
    at = 0;
    next = 0;
    to = 0;
    table = 0;
    arguments_at = z.arguments_at;
    procedures_at = z.procedures_at;
    full_at = z.full_at;
  }

module _ (places : List Place) (z : Sizing) (ways : List FrameWay) (nears : List Bool) where
  -- the words of a line, where these are left from each later line on
  abbrev pub placed_line_size : (line : ℕ) → Line → (rests : List ℕ) → ℕ
  placed_line_size line (Jump to) rests = jump_size (goes_over_nothing line to rests) (near_in (slice_get nears line))
  placed_line_size line x rests =
      length (placed_line places (sizing_spot z ways nears line) x) + length (placed_behind places (sizing_spot z ways nears line) x)

  -- what is left from a line on, in front of what is left from each later line on
  abbrev pub with_placed_line : (line : ℕ) → Line → (rests : List ℕ) → List ℕ
  with_placed_line line x rests = (slice_index rests 0 + placed_line_size line x rests) ∷ rests

  -- what is left from each of these lines on, up to the end behind the last
  abbrev pub placed_rests : (line : ℕ) → List Line → List ℕ
  placed_rests line [] = 0 ∷ []
  placed_rests line (x ∷ more) = with_placed_line line x (placed_rests (line + 1) more)

  -- what is asked of each line
  abbrev pub EachFits : List Line → Type 0
  EachFits xs = (line : ℕ) (x : Line) → slice_get xs line ≡ Some x → FitsLine (sizing_spot z ways nears line) places x

-- a line with names, whose spot says what was decided
pub record AgreesNamed (l : Located) (places : List Place) (number frame line : ℕ) (s : Spot) (x y : Line) : Type 0 where
  pub read : ℕ → ℕ
  pub given : ℕ → ℕ
  pub is : y ≡ named_line read given x
  pub agrees : AgreesAt l places number frame line s x read given

-- where the spots of lines with names say what was decided, this is what the layout counts
abbrev pub LawOfPlacedRests : Type 0
LawOfPlacedRests =
    (l : Located) (places : List Place) (number frame : ℕ) (z : Sizing) (ways : List FrameWay) (nears : List Bool) (xs ys : List Line)
    → length ys ≡ length xs
    → ((line : ℕ) (x y : Line) → slice_get xs line ≡ Some x → slice_get ys line ≡ Some y
    → AgreesNamed (unplaced l) places number frame line (sizing_spot z ways nears line) x y)
    → rests l number frame 0 xs ≡ placed_rests places z ways nears 0 ys
