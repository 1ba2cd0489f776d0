-- What so many instructions of the machine have done, by the stage in which they are.
use Rattle.std.specs.Prelude.{◌≡◌, ◌⊎◌, ◌≤◌, ◌<◌, ℕ, suc, Bool, true, List, ◌++◌, slice_get, Some}
use Rattle.rv_machine.specs.declared.ending.Ending.TheVariants.{Budget}
use Rattle.rv_machine.specs.Run.{Moment, run_from}
use Rattle.mid_code.specs.Arena.{Block}
use Rattle.mid_code.specs.State.{MidState, End, stuck}
use Rattle.mid_lines.specs.declared.line.LineProcedure.{LineProcedure}
use Rattle.mid_lines.specs.declared.line.LineProgram.{LineProgram}
use Rattle.mid_lines.specs.LinesChecked.{is_checked_line_program}
use Rattle.mid_lines.specs.LineMeaning.{Stage, running, entering, ended, state_of, after}
use Rattle.mid_lines.specs.Weights.{weights}
use Rattle.back_places.specs.declared.place.Place.{Place}
use Rattle.back_places.specs.Places.{Located}
use Rattle.back_places.specs.Good.{IsGood}
use Rattle.back_places.specs.Relation.{Relates}
use Rattle.back_places.specs.StepLaw.{Known}
use Rattle.back_runs.specs.Runs.{FollowsRun}
use Rattle.back_runs.specs.Ends.{EndsAs}

-- A stage at which the machine's moment is known: it is not stuck, and a procedure that is entered is there.
abbrev pub IsKnown : LineProgram → Stage → Type 0
IsKnown program (running a line rs callers z) = Unit {0}
IsKnown program (entering number arguments callers z) = (p : LineProcedure) × (slice_get program.procedures number ≡ Some p)
IsKnown program (ended stuck z) = ⊥
IsKnown program (ended e z) = Unit {0}

-- the run of lines has ended
abbrev pub HasCome : Stage → Type 0
HasCome (running a line rs callers z) = ⊥
HasCome (entering number arguments callers z) = ⊥
HasCome (ended e z) = Unit {0}

module _ (program : LineProgram) (l : Located) (Fact : (number line register : ℕ) → Place → Type 0) (first : List Block) where
  -- No step that the machine begins within so many instructions leads to where lines are stuck, or to the entry of a procedure that is not
  -- there.
  abbrev pub StaysKnown : Stage → Moment → (n : ℕ) → Type 0
  StaysKnown s m n =
      (steps : ℕ) (f : FollowsRun program l Fact first s m steps) → f.count < n → IsKnown program (after program steps s)
      → IsKnown program (after program (suc steps) s)

  -- the machine goes on, and what it has printed is a beginning of what lines have printed at a stage that comes after steps of no more weight
  pub record IsAmid (s : Stage) (m : Moment) (n : ℕ) : Type 0 where
    pub steps : ℕ
    pub light : weights program steps s ≤ n
    pub goes_on : (run_from n m).ending ≡ Budget
    pub prints : (rest : List ℕ) × ((run_from n m).at.printed ++ rest ≡ (state_of (after program steps s)).printed)

  -- the machine has ended, or waits, as lines end after steps of no more weight
  pub record HasEnded (s : Stage) (m : Moment) (n : ℕ) : Type 0 where
    pub steps : ℕ
    pub end : End
    pub state : MidState
    pub there : after program steps s ≡ ended end state
    pub light : weights program steps s ≤ n
    pub ends : EndsAs end state (run_from n m)

  abbrev pub HasDone : Stage → Moment → (n : ℕ) → Type 0
  HasDone s m n = IsAmid s m n ⊎ HasEnded s m n

-- By lines alone: no step behind fewer than so many calls and jumps backwards leads there. Then no step leads there that the machine begins
-- within so many instructions, as each of these takes one.
abbrev pub StepsAreKnown : LineProgram → Stage → (n : ℕ) → Type 0
StepsAreKnown program s n =
    (steps : ℕ) → weights program steps s < n → IsKnown program (after program steps s) → IsKnown program (after program (suc steps) s)

abbrev pub LawOfKnownSteps : Type 0
LawOfKnownSteps =
    (program : LineProgram) (l : Located) (known : (number line register : ℕ) → Place → Bool) (first : List Block) (s : Stage) (m : Moment) (n : ℕ)
    → StepsAreKnown program s n → StaysKnown program l (Known known) first s m n

-- So many instructions have done what lines do, where steps of lines weigh more than these, or lines have ended by then.
abbrev pub LawOfMachineRuns : Type 0
LawOfMachineRuns =
    (program : LineProgram) (l : Located) (known : (number line register : ℕ) → Place → Bool) (first : List Block)
    → is_checked_line_program program ≡ true → IsGood program l (Known known)
    → (s : Stage) (m : Moment) → Relates program l (Known known) first s m → IsKnown program s
    → (n steps : ℕ) → StaysKnown program l (Known known) first s m n → (n < weights program steps s) ⊎ HasCome (after program steps s)
    → HasDone program l (Known known) first s m n
