-- **Whole programs that were made flat, lowered and laid out**: what is asked of them, and what their images do.
use Rattle.std.specs.Prelude.{◌≡◌, ◌<◌, ◌≤◌, ℕ, ◌-◌, ◌*◌, ◌^◌, true, Bool, List, length, slice_index, slice_get, Some}
use Rattle.base.specs.Names.{IsTable}
use Rattle.lang_meaning.specs.declared.program.ProgramRows.{ProgramRows}
use Rattle.lang_meaning.specs.Facts.{is_whole}
use Rattle.lang_meaning.specs.Meaning.{meaning}
use Rattle.lang_meaning.specs.State.{Limit}
use Rattle.lang_reached.specs.Remaining.{KeepsReached}
use Rattle.flat_language.specs.Flatten.{flat_program}
use Rattle.flat_boxes.specs.Boxes.{ProgramBoxes}
use Rattle.mid_code.specs.declared.program.MidProcedure.{MidProcedure}
use Rattle.mid_code.specs.Checked.{is_checked_program}
use Rattle.mid_arena.specs.Layouts.{AreBytes}
use Rattle.mid_start.specs.declared.symbol_words.SymbolWord.{SymbolWord}
use Rattle.mid_lines.specs.declared.line.LineProcedure.{LineProcedure}
use Rattle.mid_lines.specs.Flattened.{program_lines}
use Rattle.back_places.specs.declared.place.Place.{Place}
use Rattle.back_places.specs.Places.{Located}
use Rattle.back_places.specs.Good.{IsGood}
use Rattle.back_places.specs.StepLaw.{Known}
use Rattle.back_relation.specs.Setting.{FramesWithin}
use Rattle.back_words.specs.Asked.{NamesAsked}
use Rattle.back_lowered.specs.declared.lowering.LoweredProgram.{LoweredProgram}
use Rattle.back_lowered.specs.Lowered.{IsLoweredProgram}
use Rattle.back_runs.specs.Images.{HasStart, IsFirst, first_state}
use Rattle.back_build.specs.Built.{code_with, entry_of, symbols_of}
use Rattle.back_build.specs.declared.building.Built.{Built}
use Rattle.rv_machine.specs.declared.image.Image.{Image}
use Rattle.back_program_code.specs.Made.{IsImageOf}
use Rattle.back_build.specs.Means.{ImageMeans, IsBuilt}
use Rattle.back_build.specs.Reached.{IsSized}

-- what is asked of a whole program that was made flat and lowered: the names that its forms use are in the table, no more of its variables have boxes than
-- functions capture, its words are words, its frames are at most those that were given, and its code is in form
pub record IsCompiled (names : List (List ℕ)) (program : ProgramRows) (l : LoweredProgram) (used : List MidProcedure) : Type 0 where
  pub whole : is_whole program ≡ true
  pub table : IsTable names
  pub asked : NamesAsked names (flat_program program)
  pub boxes : ProgramBoxes (flat_program program)
  pub lowered : IsLoweredProgram names (flat_program program) l
  pub low : (i : ℕ) → slice_index l.words.data.arena.words i < 2 ^ 32
  pub frames : FramesWithin l.procedures used
  pub checked : is_checked_program (code_with l used) ≡ true

-- **The image of a whole program does what the program means**: whatever was decided of places, where it was decided well
abbrev pub LawOfCompiled : Type 0
LawOfCompiled =
    (names : List (List ℕ)) (program : ProgramRows) (l : LoweredProgram) (used : List MidProcedure) → IsCompiled names program l used
    → (d : Located) (known : (number line register : ℕ) → Place → Bool) → IsGood (program_lines (code_with l used)) d (Known known)
    → (at : ℕ) (image : List ℕ) (arena : ℕ) (input : List ℕ) (p : LineProcedure)
    → HasStart (program_lines (code_with l used)) d at (entry_of names (flat_program program) l) image
    → slice_get (program_lines (code_with l used)).procedures (entry_of names (flat_program program) l) ≡ Some p
    → length l.words.data.arena.words ≤ length image → length image ≤ arena → arena ≤ 2 ^ 24
    → IsFirst d image arena input (first_state l.words.data.arena.words (length image) arena input) → AreBytes input
    → ImageMeans names program (symbols_of l) image (4 * at) arena input

-- an image was made of lowered code, with the frames that were given; a run begins with the last of its procedures, the start
pub record IsImageMade (l : LoweredProgram) (image : Image) : Type 0 where
  pub checked : is_checked_program (code_with l l.procedures) ≡ true
  pub made : IsImageOf (code_with l l.procedures) (length l.procedures - 1) image

-- and the symbols that are laid in it are handed out with it
pub record IsMade (l : LoweredProgram) (built : Built) : Type 0 where
  pub image : IsImageMade l built.image
  pub symbols : built.symbols ≡ symbols_of l

-- **What `build` rests on**: an image that was made of the code of a whole program does what the program means, in every arena that has room for it
abbrev pub LawOfBuilt : Type 0
LawOfBuilt =
    (names : List (List ℕ)) (program : ProgramRows) (l : LoweredProgram) (image : Image) → is_whole program ≡ true → IsTable names
    → NamesAsked names (flat_program program) → ProgramBoxes (flat_program program) → IsLoweredProgram names (flat_program program) l
    → IsImageMade l image → IsBuilt names program (symbols_of l) image

-- and how many words an image has that was made of it, by the nodes of the program
abbrev pub LawOfBuiltSize : Type 0
LawOfBuiltSize =
    (names : List (List ℕ)) (program : ProgramRows) (l : LoweredProgram) (image : Image) → is_whole program ≡ true
    → IsLoweredProgram names (flat_program program) l → IsImageMade l image → IsSized image program

-- **What is left out changes nothing**: an image of the program that keeps what is reached, where it means the same, is one of the whole program
abbrev pub LawOfLeft : Type 0
LawOfLeft =
    (names : List (List ℕ)) (program left : ProgramRows) → KeepsReached names program left
    → ((input : List ℕ) (levels : ℕ) (limit : Limit) → meaning names left input levels limit ≡ meaning names program input levels limit)
    → (symbols : List SymbolWord) (image : Image) → IsBuilt names left symbols image → IsBuilt names program symbols image
