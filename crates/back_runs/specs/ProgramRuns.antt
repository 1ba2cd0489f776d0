-- Runs of programs of middle code on the machine, from where the first procedure is entered.
use Rattle.std.specs.Prelude.{◌≡◌, ◌⊎◌, ◌≤◌, ◌<◌, ℕ, ◌+◌, Bool, true, List, [], ◌++◌, slice_get, Some}
use Rattle.rv_machine.specs.declared.ending.Ending.TheVariants.{Budget}
use Rattle.rv_machine.specs.Run.{Moment, run_from}
use Rattle.mid_code.specs.declared.program.MidProgram.{MidProgram}
use Rattle.mid_code.specs.Arena.{Block}
use Rattle.mid_code.specs.Checked.{is_checked_program}
use Rattle.mid_code.specs.State.{MidState, End, stuck, MidOutcome}
use Rattle.mid_code.specs.Meaning.{runs}
use Rattle.mid_lines.specs.declared.line.LineProcedure.{LineProcedure}
use Rattle.mid_lines.specs.declared.line.LineProgram.{LineProgram}
use Rattle.mid_lines.specs.Flattened.{program_lines}
use Rattle.mid_lines.specs.LineMeaning.{begin}
use Rattle.mid_lines.specs.LineLaw.{line_run, run_weight}
use Rattle.back_places.specs.declared.place.Place.{Place}
use Rattle.back_places.specs.Places.{Located}
use Rattle.back_places.specs.Good.{IsGood}
use Rattle.back_places.specs.Relation.{Enters}
use Rattle.back_places.specs.StepLaw.{Known}
use Rattle.back_runs.specs.Ends.{IsSaid, EndsAs}
use Rattle.back_runs.specs.MachineRuns.{HasCome, StaysKnown}

-- The machine stands where the first procedure of a run, which is there, is entered with arguments.
pub record Begins
    (program : LineProgram) (l : Located) (Fact : (number line register : ℕ) → Place → Type 0) (entry : ℕ) (arguments : List ℕ) (z : MidState) (m : Moment) : Type 0 where
  pub procedure : LineProcedure
  pub there : slice_get program.procedures entry ≡ Some procedure
  pub enters : Enters program l Fact z.arena.blocks entry arguments [] z m

-- a run of lines comes to its end, or its steps weigh more than any number
abbrev pub LawOfWeighing : Type 0
LawOfWeighing =
    (program : MidProgram) (n entry : ℕ) (arguments : List ℕ) (z : MidState)
    → (steps : ℕ) × ((n < run_weight program entry arguments z steps) ⊎ HasCome (line_run program entry arguments z steps))

-- the end of a run that is not stuck
abbrev pub IsLawfulEnd : End → Type 0
IsLawfulEnd stuck = ⊥
IsLawfulEnd e = Unit {0}

-- Where the run of a program, with at least so many levels and turns, is lawful, no step that the machine begins within so many instructions
-- leads to where nothing is known of it.
abbrev pub LawOfKnownRuns : Type 0
LawOfKnownRuns =
    (program : MidProgram) (l : Located) (known : (number line register : ℕ) → Place → Bool) (first : List Block)
    (entry : ℕ) (arguments : List ℕ) (z : MidState) (m : Moment) (n k turns_each : ℕ)
    → n ≤ k → n ≤ turns_each → IsLawfulEnd (runs program k turns_each entry arguments z).end
    → StaysKnown (program_lines program) l (Known known) first (begin entry arguments z) m n

-- So many instructions from a moment have done what the run of a program does: what was printed is a beginning of what it prints, and the
-- machine goes on, or has ended as the run. So it has not trapped.
pub record DoesAs (r : MidOutcome) (m : Moment) (n : ℕ) : Type 0 where
  pub prints : (rest : List ℕ) × ((run_from n m).at.printed ++ rest ≡ r.state.printed)
  pub ends : ((run_from n m).ending ≡ Budget) ⊎ EndsAs r.end r.state (run_from n m)

-- what so many instructions do, beside the run of a program with so many levels and turns
pub record RunsAs
    (program : MidProgram) (l : Located) (Fact : (number line register : ℕ) → Place → Type 0) (entry : ℕ) (arguments : List ℕ) (z : MidState) (m : Moment)
    (n k turns_each : ℕ) : Type 0 where
  -- as long as lines are not stuck in steps that these instructions begin
  pub does :
      n ≤ k → n ≤ turns_each → StaysKnown (program_lines program) l Fact z.arena.blocks (begin entry arguments z) m n
      → DoesAs (runs program k turns_each entry arguments z) m n
  -- where the run comes to an end at a cost of less than n, the machine has ended so
  pub in_time :
      IsSaid (runs program k turns_each entry arguments z).end → (runs program k turns_each entry arguments z).state.cost < z.cost + n
      → EndsAs (runs program k turns_each entry arguments z).end (runs program k turns_each entry arguments z).state (run_from n m)

-- **Instructions do what the program means**: each program of middle code in form, with good decisions, from every start.
abbrev pub LawOfProgramRuns : Type 0
LawOfProgramRuns =
    (program : MidProgram) (l : Located) (known : (number line register : ℕ) → Place → Bool)
    → is_checked_program program ≡ true → IsGood (program_lines program) l (Known known)
    → (entry : ℕ) (arguments : List ℕ) (z : MidState) (m : Moment) → Begins (program_lines program) l (Known known) entry arguments z m
    → (n k turns_each : ℕ) → RunsAs program l (Known known) entry arguments z m n k turns_each
