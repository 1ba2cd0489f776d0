-- The images of programs with their positions, and what they do.
use Rattle.std.specs.Prelude.{◌≡◌, ◌<◌, ◌≤◌, ℕ, ◌+◌, ◌^◌, Bool, true, List, [], slice_get, slice_index, Some}
use Rattle.mid_code.specs.declared.program.MidProgram.{MidProgram}
use Rattle.mid_code.specs.Checked.{is_checked_program}
use Rattle.mid_code.specs.State.{MidState}
use Rattle.mid_code.specs.Meaning.{runs}
use Rattle.mid_lines.specs.declared.line.LineProcedure.{LineProcedure}
use Rattle.mid_lines.specs.declared.line.LineProgram.{LineProgram}
use Rattle.mid_lines.specs.Flattened.{program_lines}
use Rattle.back_places.specs.declared.place.Place.{Place}
use Rattle.back_places.specs.Places.{Located}
use Rattle.back_places.specs.StepLaw.{Known}
use Rattle.back_trivial.specs.OwnSlots.{IsPlacedWell}
use Rattle.back_allocation.specs.declared.placing.RegisterPlaces.{RegisterPlaces}
use Rattle.back_allocation.specs.ProgramPlaces.{PlacesFit}
use Rattle.back_layout.specs.Layout.{start_at, laid_out}
use Rattle.back_layout.specs.Image.{image}
use Rattle.back_layout.specs.ChosenPlaces.{most_arguments, nothing_decided, placed_laid_out}
use Rattle.back_runs.specs.ProgramRuns.{IsLawfulEnd, DoesAs}
use Rattle.back_runs.specs.Images.{HasStart, IsFirst, first_state}
use Rattle.back_runs.specs.Laws.{loaded, ImageRuns}

-- the words laid beside the code of a program are words
abbrev pub LaidAreWords : List ℕ → Type 0
LaidAreWords laid = (i : ℕ) → slice_index laid i < 2 ^ 32

-- with decisions that are good but for positions, the words of the image have all that a start asks for
abbrev pub LawOfImages : Type 0
LawOfImages =
    (program : LineProgram) (l : Located) (known : (number line register : ℕ) → Place → Bool) (entry : ℕ)
    → IsPlacedWell program (laid_out program l) (Known known) → (laid_out program l).code_to < 2 ^ 24 → LaidAreWords program.laid
    → HasStart program (laid_out program l) (start_at program l) entry (image program (laid_out program l) entry)

-- the state that has the words laid beside the code, and nothing else, is one with which a run of the image begins, in each arena that has room for it
abbrev pub LawOfFirstStates : Type 0
LawOfFirstStates =
    (program : LineProgram) (l : Located) (known : (number line register : ℕ) → Place → Bool) (entry arena : ℕ) (input : List ℕ)
    → IsPlacedWell program (laid_out program l) (Known known) → (laid_out program l).code_to < 2 ^ 24 → LaidAreWords program.laid
    → (laid_out program l).code_to ≤ arena → arena ≤ 2 ^ 24 → ((i : ℕ) → slice_index input i < 2 ^ 32)
    → IsFirst (laid_out program l) (image program (laid_out program l) entry) arena input (first_state program.laid (laid_out program l).code_to arena input)

-- the words of a program of middle code, with registers in places that were chosen, procedure by procedure
abbrev pub emitted : MidProgram → (chosen : List RegisterPlaces) → (entry : ℕ) → List ℕ
emitted program chosen entry = image (program_lines program) (placed_laid_out program chosen) entry

-- where these begin a run, which is the same with all places
abbrev pub emitted_start : MidProgram → ℕ
emitted_start program = start_at (program_lines program) (nothing_decided (most_arguments (program_lines program).procedures))

-- what the image of a program does, from a state with which its run begins
pub record EmittedRuns (program : MidProgram) (chosen : List RegisterPlaces) (entry arena : ℕ) (input : List ℕ) (z : MidState) : Type 0 where
  -- what is known at lines is told by some test
  pub known : (number line register : ℕ) → Place → Bool
  pub runs_as :
      ImageRuns program (placed_laid_out program chosen) (Known known) (emitted_start program) entry (emitted program chosen entry) arena input z
  -- where the program with at least as many levels and turns is not stuck
  pub lawful :
      (n k turns_each : ℕ) → n ≤ k → n ≤ turns_each → IsLawfulEnd (runs program k turns_each entry [] z).end
      → DoesAs (runs program k turns_each entry [] z) (loaded (emitted program chosen entry) (emitted_start program) arena input) (2 + n)

-- **Emitted code does what programs mean**: each program of middle code in form, with places that fit it, whose image is small enough.
abbrev pub LawOfEmittedRuns : Type 0
LawOfEmittedRuns =
    (program : MidProgram) (chosen : List RegisterPlaces) (entry arena : ℕ) (input : List ℕ) (z : MidState) (p : LineProcedure)
    → is_checked_program program ≡ true → PlacesFit program chosen → (placed_laid_out program chosen).code_to < 2 ^ 24 → LaidAreWords program.laid
    → slice_get (program_lines program).procedures entry ≡ Some p → IsFirst (placed_laid_out program chosen) (emitted program chosen entry) arena input z
    → EmittedRuns program chosen entry arena input z
