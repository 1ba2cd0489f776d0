-- The laws of starts, of ends, and of whole images.
use Rattle.std.specs.Prelude.{◌≡◌, ◌<◌, ◌≤◌, ℕ, ◌+◌, ◌*◌, ◌^◌, Bool, true, List, [], ◌++◌, length, slice_get, slice_index, Some}
use Rattle.rv_machine.specs.State.{start}
use Rattle.rv_machine.specs.Run.{Moment, first as first_moment, run_from}
use Rattle.mid_code.specs.declared.program.MidProgram.{MidProgram}
use Rattle.mid_code.specs.Arena.{Block}
use Rattle.mid_code.specs.Checked.{is_checked_program}
use Rattle.mid_code.specs.State.{MidState, returns}
use Rattle.mid_code.specs.Meaning.{runs}
use Rattle.mid_lines.specs.declared.line.LineProcedure.{LineProcedure}
use Rattle.mid_lines.specs.declared.line.LineProgram.{LineProgram}
use Rattle.mid_lines.specs.Flattened.{program_lines}
use Rattle.mid_lines.specs.LineMeaning.{begin}
use Rattle.back_places.specs.declared.place.Place.{Place}
use Rattle.back_places.specs.Places.{Located}
use Rattle.back_places.specs.Good.{IsGood}
use Rattle.back_places.specs.Relation.{Machine}
use Rattle.back_places.specs.StepLaw.{Comes, Known}
use Rattle.back_runs.specs.Ends.{IsSaid, EndsAs}
use Rattle.back_runs.specs.MachineRuns.{StaysKnown}
use Rattle.back_runs.specs.ProgramRuns.{Begins, DoesAs}
use Rattle.back_runs.specs.Images.{HasStart, IsFirst, first_state}

-- The words laid beside the code stand at the front of the image, in front of those of arguments: then the state that has them, and nothing
-- else, is one with which a run begins.
abbrev pub LawOfFirst : Type 0
LawOfFirst =
    (program : LineProgram) (l : Located) (at entry : ℕ) (image laid rest : List ℕ) (arena : ℕ) (input : List ℕ)
    → HasStart program l at entry image → image ≡ laid ++ rest → length laid ≤ l.arguments_at → length image ≤ arena → arena ≤ 2 ^ 24
    → ((i : ℕ) → slice_index input i < 2 ^ 32) → IsFirst l image arena input (first_state laid (length image) arena input)

-- the moment at which the machine has been loaded with an image, and has executed nothing
abbrev pub loaded : (image : List ℕ) (at arena : ℕ) (input : List ℕ) → Moment
loaded image at arena input = first_moment (start image (4 * at) arena) input

-- from there the machine comes in two instructions to where the first procedure is entered
pub record Started
    (program : LineProgram) (l : Located) (Fact : (number line register : ℕ) → Place → Type 0) (at entry : ℕ) (image : List ℕ) (arena : ℕ) (input : List ℕ)
    (z : MidState) : Type 0 where
  pub moment : Moment
  pub comes : Comes 2 (loaded image at arena input) moment
  pub begins : Begins program l Fact entry [] z moment

abbrev pub LawOfStart : Type 0
LawOfStart =
    (program : LineProgram) (l : Located) (known : (number line register : ℕ) → Place → Bool) → IsGood program l (Known known)
    → (at entry : ℕ) (image : List ℕ) (arena : ℕ) (input : List ℕ) (z : MidState) (p : LineProcedure)
    → HasStart program l at entry image → IsFirst l image arena input z → slice_get program.procedures entry ≡ Some p
    → Started program l (Known known) at entry image arena input z

-- where the first procedure returns to, the machine halts in three instructions, with the word that was returned
abbrev pub LawOfEnd : Type 0
LawOfEnd =
    (program : LineProgram) (l : Located) (known : (number line register : ℕ) → Place → Bool) (first : List Block) → IsGood program l (Known known)
    → (z : MidState) (words : List ℕ) (m : Moment) → Machine program l (Known known) first z words m → m.state.pc ≡ 4 * l.end_at
    → (more : ℕ) → EndsAs (returns (slice_index m.state.registers 12)) z (run_from (3 + more) m)

-- What instructions of an image do, beside the run of a program with so many levels and turns: 2 for the start, and n. Where the run comes to an
-- end, the image has ended so within what the run costs: the start, and the environment call at the end, are paid by the first entry.
pub record ImageRuns
    (program : MidProgram) (l : Located) (Fact : (number line register : ℕ) → Place → Type 0) (at entry : ℕ) (image : List ℕ) (arena : ℕ) (input : List ℕ)
    (z : MidState) : Type 0 where
  pub started : Started (program_lines program) l Fact at entry image arena input z
  pub does :
      (n k turns_each : ℕ) → n ≤ k → n ≤ turns_each
      → StaysKnown (program_lines program) l Fact z.arena.blocks (begin entry [] z) started.moment n
      → DoesAs (runs program k turns_each entry [] z) (loaded image at arena input) (2 + n)
  pub in_time :
      (n k turns_each : ℕ) → IsSaid (runs program k turns_each entry [] z).end → (runs program k turns_each entry [] z).state.cost ≤ z.cost + n
      → EndsAs (runs program k turns_each entry [] z).end (runs program k turns_each entry [] z).state (run_from n (loaded image at arena input))

-- **Images do what programs mean**: each program of middle code in form, with good decisions, in every arena in which a run begins.
abbrev pub LawOfImageRuns : Type 0
LawOfImageRuns =
    (program : MidProgram) (l : Located) (known : (number line register : ℕ) → Place → Bool)
    → is_checked_program program ≡ true → IsGood (program_lines program) l (Known known)
    → (at entry : ℕ) (image : List ℕ) (arena : ℕ) (input : List ℕ) (z : MidState) (p : LineProcedure)
    → HasStart (program_lines program) l at entry image → IsFirst l image arena input z → slice_get (program_lines program).procedures entry ≡ Some p
    → ImageRuns program l (Known known) at entry image arena input z
