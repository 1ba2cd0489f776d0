-- An image that was made of a program, and what it does on the machine.
use Rattle.std.specs.Prelude.{◌≡◌, ◌<◌, ◌≤◌, ℕ, ◌+◌, ◌*◌, ◌^◌, true, List, [], length, slice_index}
use Rattle.rv_machine.specs.declared.image.Image.{Image}
use Rattle.rv_machine.specs.State.{start}
use Rattle.rv_machine.specs.Run.{Moment, first, run_from}
use Rattle.mid_code.specs.declared.program.MidProgram.{MidProgram}
use Rattle.mid_code.specs.Checked.{is_checked_program}
use Rattle.mid_code.specs.State.{MidState}
use Rattle.mid_code.specs.Meaning.{runs}
use Rattle.back_allocation.specs.declared.placing.RegisterPlaces.{RegisterPlaces}
use Rattle.back_allocation.specs.ProgramPlaces.{PlacesFit}
use Rattle.back_layout.specs.ChosenPlaces.{placed_laid_out}
use Rattle.back_runs.specs.Ends.{IsSaid, EndsAs}
use Rattle.back_runs.specs.ProgramRuns.{IsLawfulEnd, DoesAs}
use Rattle.back_runs.specs.Images.{IsFirst, first_state}
use Rattle.back_images.specs.Laws.{LaidAreWords, emitted, emitted_start}
use Rattle.back_program_code.specs.declared.plans.Plan.{Plan}
use Rattle.back_program_code.specs.Shapes.{shapes_of, front_of, near_jumps, near_lefts, near_entries, code_end, all_entries, AreLow, EachShapeFits, first_position}

-- What was found of a program before its words are made: these places fit it, and the image ends below 2^24.
pub record IsPlan (program : MidProgram) (chosen : List RegisterPlaces) (plan : Plan) : Type 0 where
  pub places : PlacesFit program chosen
  pub shapes : plan.shapes ≡ shapes_of program chosen
  pub front : plan.front ≡ front_of program
  pub nears : plan.nears ≡ near_jumps (front_of program) (shapes_of program chosen)
  pub lefts : plan.lefts ≡ near_lefts (front_of program) (shapes_of program chosen)
  pub entries : plan.entries ≡ near_entries (front_of program) (shapes_of program chosen)
  pub nears_long : length plan.nears ≡ length plan.shapes
  pub lefts_long : length plan.lefts ≡ length plan.shapes
  pub fit : EachShapeFits plan.front plan.shapes
  pub low : first_position plan.front < 2 ^ 24
  pub entries_low : AreLow plan.entries
  pub entries_listed : plan.entries ≡ all_entries plan.front plan.lefts plan.shapes
  pub ends_low : code_end plan.front plan.lefts plan.shapes < 2 ^ 24

-- An image of a program, with places that fit it, which has fewer than 2^24 words; the words laid beside the code are words.
pub record IsImageOf (program : MidProgram) (entry : ℕ) (image : Image) : Type 0 where
  pub chosen : List RegisterPlaces
  pub places : PlacesFit program chosen
  pub words : image.words ≡ emitted program chosen entry
  pub starts : image.entry ≡ 4 * emitted_start program
  pub low : (placed_laid_out program chosen).code_to < 2 ^ 24
  pub laid : LaidAreWords program.laid

-- the moment at which the machine has been loaded with it, and has executed nothing
abbrev pub loaded_with : Image → (arena : ℕ) → (input : List ℕ) → Moment
loaded_with image arena input = first (start image.words image.entry arena) input

-- In each arena that has room for it, the state with the words laid beside the code, and an empty heap behind the image, is one with which a run
-- of the image begins.
abbrev pub LawOfFirstOfImage : Type 0
LawOfFirstOfImage =
    (program : MidProgram) (entry arena : ℕ) (image : Image) (input : List ℕ) → is_checked_program program ≡ true → (made : IsImageOf program entry image)
    → length image.words ≤ arena → arena ≤ 2 ^ 24 → ((i : ℕ) → slice_index input i < 2 ^ 32)
    → IsFirst (placed_laid_out program made.chosen) image.words arena input (first_state program.laid (length image.words) arena input)

-- What instructions of the image do, beside the run of the program with so many levels and turns.
pub record RunsOfImage (program : MidProgram) (entry arena : ℕ) (image : Image) (input : List ℕ) (z : MidState) : Type 0 where
  -- where that run is not stuck: 2 and n instructions have printed a beginning of what it prints, and go on, or have ended as it has; so they have
  -- not trapped
  pub does :
      (n k turns_each : ℕ) → n ≤ k → n ≤ turns_each → IsLawfulEnd (runs program k turns_each entry [] z).end
      → DoesAs (runs program k turns_each entry [] z) (loaded_with image arena input) (2 + n)
  -- where that run comes to an end, the machine has ended so in as many instructions as the run costs
  pub in_time :
      (n k turns_each : ℕ) → IsSaid (runs program k turns_each entry [] z).end → (runs program k turns_each entry [] z).state.cost ≤ z.cost + n
      → EndsAs (runs program k turns_each entry [] z).end (runs program k turns_each entry [] z).state (run_from n (loaded_with image arena input))

-- **Images do what programs mean**, from each state with which a run begins.
abbrev pub LawOfRunsOfImage : Type 0
LawOfRunsOfImage =
    (program : MidProgram) (entry arena : ℕ) (image : Image) (input : List ℕ) (z : MidState) → is_checked_program program ≡ true
    → (made : IsImageOf program entry image) → entry < length program.procedures
    → IsFirst (placed_laid_out program made.chosen) image.words arena input z → RunsOfImage program entry arena image input z
