-- The words of the image from the shapes of procedures.
use Rattle.std.specs.Prelude.{◌≡◌, ◌<◌, ℕ, ◌+◌, ◌*◌, Bool, true, List, ◌++◌, length, map, take, replicate, slice_get, slice_index}
use Rattle.rv_encode.specs.declared.instruction.Instr.{Instr}
use Rattle.rv_encode.specs.Encodes.{word_of}
use Rattle.mid_code.specs.declared.program.MidProgram.{MidProgram}
use Rattle.mid_code.specs.Checked.{is_checked_program}
use Rattle.mid_lines.specs.declared.line.Line.{Line}
use Rattle.back_places.specs.Selection.{far_jump_code}
use Rattle.back_places.specs.Blocks.{end_code, full_code}
use Rattle.back_allocation.specs.declared.placing.RegisterPlaces.{RegisterPlaces}
use Rattle.back_allocation.specs.ProgramPlaces.{PlacesFit}
use Rattle.back_layout.specs.Sizes.{switch_targets, all_targets}
use Rattle.back_layout.specs.ChosenPlaces.{placed_laid_out}
use Rattle.back_emit.specs.declared.spots.Spot.{Spot}
use Rattle.back_emit.specs.PlacedCode.{placed_line, placed_behind, placed_entry}
use Rattle.back_emit.specs.PlacedLines.{line_position}
use Rattle.back_images.specs.Laws.{emitted}
use Rattle.back_program_code.specs.declared.front.Front.{Front}
use Rattle.back_program_code.specs.declared.shapes.Shape.{Shape}
use Rattle.back_program_code.specs.Joined.{joined}
use Rattle.back_program_code.specs.Shapes.{shapes_of, front_of, listed, full_position, body_position, spot_in, near_jumps, near_lefts, near_entries, code_end}

module _ (f : Front) (entries : List ℕ) (at : ℕ) (nears : List Bool) (lefts : List ℕ) (s : Shape) where
  -- the table of a line's switch stands behind the lines, and behind the tables of earlier lines
  abbrev pub table_position : (line : ℕ) → ℕ
  table_position line = body_position f at s + slice_index lefts 0 + length (all_targets (take line s.chosen.lines))

  abbrev pub line_spot : (line : ℕ) → Line → Spot
  line_spot line x = spot_in f entries at nears lefts s (table_position line) line x

  abbrev pub line_instructions : (line : ℕ) → Line → List Instr
  line_instructions line x = placed_line s.chosen.places (line_spot line x) x ++ placed_behind s.chosen.places (line_spot line x) x

  -- the instructions of a procedure, and the words of its tables
  abbrev pub shape_code : List Instr
  shape_code =
      placed_entry (full_position f) f.arguments_at at s.procedure.frame s.chosen.parameters ++ joined line_instructions 0 s.chosen.lines

  abbrev pub line_table : (line : ℕ) → Line → List ℕ
  line_table line x = map (λ to. 4 * line_position lefts (body_position f at s) to) (switch_targets x)

  abbrev pub shape_image : List ℕ
  shape_image = map word_of shape_code ++ joined line_table 0 s.chosen.lines

module _ (f : Front) (entries : List ℕ) (nears : List (List Bool)) (lefts : List (List ℕ)) where
  abbrev pub numbered_image : (number : ℕ) → Shape → List ℕ
  numbered_image number s = shape_image f entries (slice_index entries number) (listed (slice_get nears number)) (listed (slice_get lefts number)) s

-- what stands in front of the procedures
abbrev pub front_words : (laid : List ℕ) → Front → (entries : List ℕ) → (entry : ℕ) → List ℕ
front_words laid f entries entry =
    laid
    ++ (replicate f.argument_words 0
    ++ (map (λ at. 4 * at) entries
    ++ (map word_of (far_jump_code 1 f.start_at (slice_index entries entry)) ++ (map word_of end_code ++ map word_of full_code))))

-- the words from the shapes that procedures have with places that were chosen for them
abbrev pub shaped_image : MidProgram → (chosen : List RegisterPlaces) → (entry : ℕ) → List ℕ
shaped_image program chosen entry =
    front_words program.laid (front_of program) (near_entries (front_of program) (shapes_of program chosen)) entry
    ++ joined
    (numbered_image (front_of program) (near_entries (front_of program) (shapes_of program chosen)) (near_jumps (front_of program) (shapes_of program chosen))
    (near_lefts (front_of program) (shapes_of program chosen)))
    0 (shapes_of program chosen)

-- for a program in form this is its image with these places, which fit it, and it ends where the image does
abbrev pub LawOfShapedImage : Type 0
LawOfShapedImage =
    (program : MidProgram) (chosen : List RegisterPlaces) (entry : ℕ) → is_checked_program program ≡ true → PlacesFit program chosen
    → entry < length program.procedures
    → (shaped_image program chosen entry ≡ emitted program chosen entry)
    × (code_end (front_of program) (near_lefts (front_of program) (shapes_of program chosen)) (shapes_of program chosen)
    ≡ (placed_laid_out program chosen).code_to)
