-- The laws of the layout.
use Rattle.std.specs.Prelude.{◌≡◌, ◌≤◌, ◌<◌, ℕ, ◌+◌, ◌*◌, ◌^◌, Bool, List, length, slice_get, slice_index, Some}
use Rattle.mid_code.specs.declared.program.MidProgram.{MidProgram}
use Rattle.mid_lines.specs.declared.line.Line.{Line}
use Rattle.mid_lines.specs.declared.line.LineProcedure.{LineProcedure}
use Rattle.mid_lines.specs.declared.line.LineProgram.{LineProgram}
use Rattle.mid_lines.specs.Lines.{line_of}
use Rattle.mid_lines.specs.Flattened.{program_lines}
use Rattle.mid_lines.specs.StackLaw.{frame_of}
use Rattle.back_places.specs.declared.place.Place.{Place}
use Rattle.back_places.specs.Places.{Located}
use Rattle.back_places.specs.LineCode.{line_code, behind_code, entry_code}
use Rattle.back_places.specs.Good.{IsGood}
use Rattle.back_places.specs.Relation.{Stands, HasProgram}
use Rattle.back_places.specs.StepLaw.{Known}
use Rattle.back_trivial.specs.OwnSlots.{IsPlacedWell, IsLaidWell}
use Rattle.back_allocation.specs.declared.placing.RegisterPlaces.{RegisterPlaces}
use Rattle.back_allocation.specs.ProgramPlaces.{PlacesFit}
use Rattle.back_layout.specs.Layout.{start_at, laid_out}
use Rattle.back_layout.specs.Image.{start_code, image}
use Rattle.back_layout.specs.ChosenPlaces.{placed_laid_out}

-- Each position is behind the one before by the length of its code, up to where code ends; and where that is below 2^24, addresses are words.
pub record ArePositions (program : LineProgram) (l : Located) : Type 0 where
  pub entries :
      (number : ℕ) (p : LineProcedure) → slice_get program.procedures number ≡ Some p
      → l.line_at number 0 ≡ l.entry_at number + length (entry_code l number p.frame)
  pub lines :
      (number line : ℕ) (x : Line) → line_of program number line ≡ Some x
      → l.back_at number line ≡ l.line_at number line + length (line_code l number (frame_of program number).words line x)
  pub behind :
      (number line : ℕ) (x : Line) → line_of program number line ≡ Some x
      → l.line_at number (line + 1) ≡ l.back_at number line + length (behind_code l number line x)
  pub within : (number line : ℕ) → l.line_at number line ≤ l.code_to
  pub words : l.code_to < 2 ^ 24 → (number line : ℕ) → 4 * l.line_at number line < 2 ^ 32

abbrev pub LawOfPositions : Type 0
LawOfPositions = (program : LineProgram) (l : Located) → ArePositions program (laid_out program l)

-- Whatever was decided of places, positions are good with it, where the image is small enough.
abbrev pub LawOfLaidOut : Type 0
LawOfLaidOut = (program : LineProgram) (l : Located) → (laid_out program l).code_to < 2 ^ 24 → IsLaidWell program (laid_out program l)

-- So decisions that are good but for positions are good whole.
abbrev pub LawOfLayout : Type 0
LawOfLayout =
    (program : LineProgram) (l : Located) (known : (number line register : ℕ) → Place → Bool)
    → IsPlacedWell program (laid_out program l) (Known known) → (laid_out program l).code_to < 2 ^ 24
    → IsGood program (laid_out program l) (Known known)

-- Decisions that are good whole, where some test tells what is known at each line.
pub record AreGood (program : LineProgram) (l : Located) : Type 0 where
  pub known : (number line register : ℕ) → Place → Bool
  pub good : IsGood program l (Known known)

-- those by places that fit a program among them
abbrev pub LawOfPlacedLaidOut : Type 0
LawOfPlacedLaidOut =
    (program : MidProgram) (chosen : List RegisterPlaces) → PlacesFit program chosen → (placed_laid_out program chosen).code_to < 2 ^ 24
    → AreGood (program_lines program) (placed_laid_out program chosen)

-- Words are an image: they have the program, begin with the words laid beside the code, have the jump to the procedure in which a run begins, and are
-- as many as positions say. Where the laid words are words and the image is small enough, all are.
pub record IsImage (program : LineProgram) (l : Located) (entry : ℕ) (words : List ℕ) : Type 0 where
  pub program_there : HasProgram program l words
  pub laid : (i w : ℕ) → slice_get program.laid i ≡ Some w → slice_index words i ≡ w
  pub start : Stands l words (start_at program l) (start_code program l entry)
  pub long : length words ≡ l.code_to
  pub small : ((i : ℕ) → slice_index program.laid i < 2 ^ 32) → l.code_to < 2 ^ 24 → (i : ℕ) → slice_index words i < 2 ^ 32

-- so are those of the image, where decisions are good but for positions
abbrev pub LawOfWords : Type 0
LawOfWords =
    (program : LineProgram) (l : Located) (known : (number line register : ℕ) → Place → Bool) (entry : ℕ)
    → IsPlacedWell program (laid_out program l) (Known known) → IsImage program (laid_out program l) entry (image program (laid_out program l) entry)
