-- The laws of lines: the machine does what the tree of steps does.
use Rattle.std.specs.Prelude.{◌≡◌, ℕ, List, ◌++◌, slice_get, Some}
use Rattle.mid_code.specs.declared.program.MidProgram.{MidProgram}
use Rattle.mid_code.specs.State.{MidState, End, stuck, MidOutcome}
use Rattle.mid_code.specs.Meaning.{runs}
use Rattle.mid_code.specs.Law.{IsReached}
use Rattle.mid_lines.specs.declared.line.Line.{Line}
use Rattle.mid_lines.specs.declared.line.LineProcedure.{LineProcedure}
use Rattle.mid_lines.specs.declared.line.LineProgram.{LineProgram}
use Rattle.mid_lines.specs.Lines.{line_of}
use Rattle.mid_lines.specs.LineMeaning.{Stage, running, entering, ended, state_of, begin, next, after}
use Rattle.mid_lines.specs.Flattened.{program_lines}
use Rattle.mid_lines.specs.Weights.{weights}

-- the machine of a program's lines, so many steps after its procedure of a number was entered with arguments
abbrev pub line_run : MidProgram → (entry : ℕ) → (arguments : List ℕ) → MidState → (steps : ℕ) → Stage
line_run program entry arguments z steps = after (program_lines program) steps (begin entry arguments z)

-- a run of the machine does what an outcome says: it comes to its end where that was reached, and to its state in any case
pub record DoesTheSame (run : ℕ → Stage) (outcome : MidOutcome) : Type 0 where
  pub ends : IsReached outcome.end → (steps : ℕ) × (run steps ≡ ended outcome.end outcome.state)
  pub comes : (steps : ℕ) × (state_of (run steps) ≡ outcome.state)

-- whatever the levels and turns, the machine of the lines does what the tree does
abbrev pub LawOfLines : Type 0
LawOfLines =
    (program : MidProgram) (k turns_each entry : ℕ) (arguments : List ℕ) (z : MidState)
    → DoesTheSame (line_run program entry arguments z) (runs program k turns_each entry arguments z)

-- an outcome has an end and a state, and its end is reached
pub record OutcomeEnds (outcome : MidOutcome) (e : End) (z : MidState) : Type 0 where
  pub reached : IsReached outcome.end
  pub end : outcome.end ≡ e
  pub state : outcome.state ≡ z

-- the end to which the machine comes in some steps is the one that the tree reaches with as many levels and turns
abbrev pub LawOfLineEnds : Type 0
LawOfLineEnds =
    (program : MidProgram) (steps entry : ℕ) (arguments : List ℕ) (z : MidState) (e : End) (y : MidState)
    → line_run program entry arguments z steps ≡ ended e y → OutcomeEnds (runs program steps steps entry arguments z) e y

-- What the machine has printed after some steps is a beginning of what the tree prints with as many levels and turns.
abbrev pub LawOfLinePrinting : Type 0
LawOfLinePrinting =
    (program : MidProgram) (steps entry : ℕ) (arguments : List ℕ) (z : MidState)
    → (more : List ℕ)
    × ((runs program steps steps entry arguments z).state.printed ≡ (state_of (line_run program entry arguments z steps)).printed ++ more)

-- what so many steps of the machine weigh
abbrev pub run_weight : MidProgram → (entry : ℕ) → (arguments : List ℕ) → MidState → (steps : ℕ) → ℕ
run_weight program entry arguments z steps = weights (program_lines program) steps (begin entry arguments z)

-- the same two laws with what the steps weigh in the place of their number: so many levels and turns are enough
abbrev pub LawOfWeightedEnds : Type 0
LawOfWeightedEnds =
    (program : MidProgram) (steps entry : ℕ) (arguments : List ℕ) (z : MidState) (e : End) (y : MidState)
    → line_run program entry arguments z steps ≡ ended e y
    → let w = run_weight program entry arguments z steps in OutcomeEnds (runs program w w entry arguments z) e y

abbrev pub LawOfWeightedPrinting : Type 0
LawOfWeightedPrinting =
    (program : MidProgram) (steps entry : ℕ) (arguments : List ℕ) (z : MidState)
    → let w = run_weight program entry arguments z steps in
    (more : List ℕ)
    × ((runs program w w entry arguments z).state.printed ≡ (state_of (line_run program entry arguments z steps)).printed ++ more)

-- a run that is stuck
abbrev pub IsStuck : Stage → Type 0
IsStuck (ended stuck z) = Unit {0}
IsStuck other = ⊥

-- the line at which an activation stands is there, and so is the procedure that is entered
abbrev pub IsThere : LineProgram → Stage → Type 0
IsThere program (running a line rs callers z) = (x : Line) × (line_of program a.procedure line ≡ Some x)
IsThere program (entering number arguments callers z) = (p : LineProcedure) × (slice_get program.procedures number ≡ Some p)
IsThere program (ended e z) = Unit {0}

-- so it is at each stage after which the run is not stuck
abbrev pub LawOfLinesThere : Type 0
LawOfLinesThere = (program : LineProgram) (s : Stage) → ¬ (IsStuck (next program s)) → IsThere program s
