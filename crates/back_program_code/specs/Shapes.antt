-- What is known of the procedures of a program before positions are, and where all stands then: how many words are left from each line on, where
-- entries are, which jumps are near.
use Rattle.std.specs.Prelude.{◌≡◌, ◌<◌, ◌≤◌, ℕ, ◌+◌, ◌^◌, Bool, true, ◌&&◌, nat_lt, List, [], ◌∷◌, ◌++◌, length, map, take, slice_get, slice_index, Option, Some, None}
use Rattle.std.specs.List.{list_all}
use Rattle.mid_code.specs.declared.program.MidProcedure.{MidProcedure}
use Rattle.mid_code.specs.declared.program.MidProgram.{MidProgram}
use Rattle.mid_code.specs.MidCode.{code_of}
use Rattle.mid_lines.specs.declared.line.Line.{Line}
use Rattle.mid_lines.specs.declared.line.LineProcedure.{LineProcedure}
use Rattle.mid_lines.specs.LinesChecked.{line_fits}
use Rattle.mid_lines.specs.Flattened.{procedure_lines, program_lines}
use Rattle.back_places.specs.Facts.{IsPlace}
use Rattle.back_allocation.specs.declared.placing.RegisterPlaces.{RegisterPlaces}
use Rattle.back_allocation.specs.Places.{place_at}
use Rattle.back_allocation.specs.ProgramPlaces.{places_for}
use Rattle.back_layout.specs.ChosenPlaces.{most_arguments}
use Rattle.back_layout.specs.Sizes.{all_targets}
use Rattle.back_emit.specs.declared.spots.Spot.{Spot}
use Rattle.back_emit.specs.declared.spots.Sizing.{Sizing}
use Rattle.back_emit.specs.declared.ways.FrameWay.{FrameWay}
use Rattle.back_emit.specs.declared.ways.FrameWay.TheVariants.{FromStack, PastLent, NoWay}
use Rattle.back_emit.specs.PlacedCode.{placed_entry}
use Rattle.back_emit.specs.PlacedSizes.{placed_rests}
use Rattle.back_emit.specs.PlacedLines.{placed_spot}
use Rattle.back_emit.specs.PlacedNear.{placed_is_near}
use Rattle.back_emit.specs.Fits.{passed_by}
use Rattle.back_emit.specs.TreeWays.{code_ways}
use Rattle.back_program_code.specs.declared.front.Front.{Front}
use Rattle.back_program_code.specs.declared.shapes.Shape.{Shape}
use Rattle.back_program_code.specs.Joined.{joined}

-- the ways to the frame at each line of a procedure, and behind the last
abbrev pub body_ways : MidProcedure → List FrameWay
body_ways p = code_ways (FromStack 0) (code_of p.body) ++ FromStack 0 ∷ []

-- A procedure as lines, with the ways, and with the places that are chosen for its registers; code is made of the lines with names.
abbrev pub shape_of : RegisterPlaces → MidProcedure → Shape
shape_of a p = record { procedure = procedure_lines p; ways = body_ways p; chosen = a }

-- those of a program, with the places that are chosen for each
abbrev pub shapes_of : MidProgram → (chosen : List RegisterPlaces) → List Shape
shapes_of program chosen = joined (λ number p. shape_of (places_for chosen number) p ∷ []) 0 program.procedures

-- what is chosen for a shape
abbrev pub chosen_for : Shape → RegisterPlaces
chosen_for s = s.chosen

-- and for all of them
abbrev pub chosen_in : List Shape → List RegisterPlaces
chosen_in shapes = map chosen_for shapes

-- the lines of a shape
abbrev pub procedure_of : Shape → LineProcedure
procedure_of s = s.procedure

-- What stands in front of all procedures.
abbrev pub front_of : MidProgram → Front
front_of program = record {
  arguments_at = length program.laid;
  argument_words = most_arguments (program_lines program).procedures;
  procedures_at = length program.laid + most_arguments (program_lines program).procedures;
  start_at = length program.laid + most_arguments (program_lines program).procedures + length (program_lines program).procedures;
}

-- a list at its place in a list of them; the empty one where it is not there
abbrev pub listed : {X : Type 0} → Option (List X) → List X
listed None = []
listed (Some xs) = xs

module _ (f : Front) where
  -- the code that ends a run, that for want of words, and the first procedure
  abbrev pub end_position : ℕ
  end_position = f.start_at + 2

  abbrev pub full_position : ℕ
  full_position = f.start_at + 5

  abbrev pub first_position : ℕ
  first_position = f.start_at + 11

  -- what all lines of a procedure share
  abbrev pub sizing_of : Shape → Sizing
  sizing_of s = record {
    slots = s.chosen.slots;
    frame = s.procedure.frame;
    arguments_at = f.arguments_at;
    procedures_at = f.procedures_at;
    full_at = full_position;
  }

  -- how many words an entry has
  abbrev pub entry_words : Shape → ℕ
  entry_words s = length (placed_entry full_position f.arguments_at 0 s.procedure.frame s.chosen.parameters)

  -- how many are left from each line on
  abbrev pub shape_lefts : (nears : List Bool) → Shape → List ℕ
  shape_lefts nears s = placed_rests s.chosen.places (sizing_of s) s.ways nears 0 s.chosen.lines

  -- how many a procedure has
  abbrev pub shape_words : (lefts : List ℕ) → Shape → ℕ
  shape_words lefts s = entry_words s + slice_index lefts 0 + length (all_targets s.chosen.lines)

  -- what is left in each procedure, where these jumps are near
  abbrev pub all_lefts : (nears : List (List Bool)) → List Shape → List (List ℕ)
  all_lefts nears shapes = joined (λ number s. shape_lefts (listed (slice_get nears number)) s ∷ []) 0 shapes

  -- how many words procedures have, from a number on, and the positions of their entries
  abbrev pub words_of : (lefts : List (List ℕ)) → (number : ℕ) → List Shape → ℕ
  words_of lefts number [] = 0
  words_of lefts number (s ∷ more) = shape_words (listed (slice_get lefts number)) s + words_of lefts (number + 1) more

  abbrev pub entry_position : (lefts : List (List ℕ)) → List Shape → (number : ℕ) → ℕ
  entry_position lefts shapes number = first_position + words_of lefts 0 (take number shapes)

  abbrev pub all_entries : (lefts : List (List ℕ)) → List Shape → List ℕ
  all_entries lefts shapes = joined (λ number s. entry_position lefts shapes number ∷ []) 0 shapes

  abbrev pub code_end : (lefts : List (List ℕ)) → List Shape → ℕ
  code_end lefts shapes = first_position + words_of lefts 0 shapes

  -- the spot of a line in a procedure whose entry is at a position, with that of its table
  abbrev pub body_position : (at : ℕ) → Shape → ℕ
  body_position at s = at + entry_words s

  abbrev pub spot_in : (entries : List ℕ) → (at : ℕ) → (nears : List Bool) → (lefts : List ℕ) → Shape → (table line : ℕ) → Line → Spot
  spot_in entries at nears lefts s table line x =
      placed_spot (sizing_of s) s.ways nears lefts entries (body_position at s) line table x

  -- which jumps are near, where what is left was counted with none that is
  abbrev pub shape_nears : (entries : List ℕ) → (at : ℕ) → (lefts : List ℕ) → Shape → List Bool
  shape_nears entries at lefts s = joined (λ line x. placed_is_near s.chosen.places (spot_in entries at [] lefts s 0 line x) x ∷ []) 0 s.chosen.lines

  abbrev pub all_nears : (lefts : List (List ℕ)) → (entries : List ℕ) → List Shape → List (List Bool)
  all_nears lefts entries shapes =
      joined (λ number s. shape_nears entries (slice_index entries number) (listed (slice_get lefts number)) s ∷ []) 0 shapes

  abbrev pub near_jumps : List Shape → List (List Bool)
  near_jumps shapes = all_nears (all_lefts [] shapes) (all_entries (all_lefts [] shapes) shapes) shapes

  abbrev pub near_lefts : List Shape → List (List ℕ)
  near_lefts shapes = all_lefts (near_jumps shapes) shapes

  abbrev pub near_entries : List Shape → List ℕ
  near_entries shapes = all_entries (near_lefts shapes) shapes

-- all positions are below 2^24
abbrev pub AreLow : List ℕ → Type 0
AreLow entries = (number : ℕ) → slice_index entries number < 2 ^ 24

-- What is asked of a procedure, so that all numbers are words: a way reaches all slots, the places of registers and of parameters are registers of the
-- machine or slots, and lines are in form.
abbrev pub is_near_way : (slots frame : ℕ) → FrameWay → Bool
is_near_way slots frame (FromStack depth) = nat_lt (depth + slots) (2 ^ 30) && nat_lt (depth + frame) (2 ^ 30)
is_near_way slots frame (PastLent depth) = nat_lt (depth + slots) (2 ^ 10) && nat_lt (depth + frame) (2 ^ 30)
is_near_way slots frame NoWay = nat_lt frame (2 ^ 30)

abbrev pub is_near_shape : Shape → Bool
is_near_shape s = list_all (is_near_way s.chosen.slots s.procedure.frame) s.ways

pub record FitsShape (f : Front) (s : Shape) : Type 0 where
  pub low : first_position f < 2 ^ 24
  pub arguments_low : f.arguments_at < 2 ^ 24
  pub procedures_low : f.procedures_at < 2 ^ 24
  pub few : s.chosen.slots < 2 ^ 24
  pub framed : s.procedure.frame < 2 ^ 30
  pub ways : list_all (is_near_way s.chosen.slots s.procedure.frame) s.ways ≡ true
  pub placed : (v : ℕ) → IsPlace (s.chosen.slots + 1) (place_at s.chosen.places v)
  pub entered : (v : ℕ) → IsPlace (s.chosen.slots + 1) (place_at s.chosen.parameters v)
  pub parameters : f.arguments_at + length s.chosen.parameters ≤ 2 ^ 24
  pub names : ℕ
  pub lines : (line : ℕ) (x : Line) → slice_get s.chosen.lines line ≡ Some x → line_fits names (length s.procedure.lines) x ≡ true
  pub passed : (line : ℕ) (x : Line) → slice_get s.chosen.lines line ≡ Some x → f.arguments_at + passed_by x ≤ 2 ^ 24

abbrev pub EachShapeFits : Front → List Shape → Type 0
EachShapeFits f shapes = (number : ℕ) (s : Shape) → slice_get shapes number ≡ Some s → FitsShape f s
