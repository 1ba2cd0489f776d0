-- The law of steps: one step of lines is matched by so many instructions of the machine.
use Rattle.std.specs.Prelude.{◌≡◌, ◌≤◌, ℕ, ◌+◌, Bool, true, nat_le, List, ◌++◌, Option, Some, if◌then◌else◌, IsTrue}
use Rattle.rv_machine.specs.declared.ending.Ending.TheVariants.{Budget}
use Rattle.rv_machine.specs.Run.{Moment, run_from}
use Rattle.mid_code.specs.declared.operation.Operation.TheVariants.{Call}
use Rattle.mid_code.specs.Arena.{Block}
use Rattle.mid_code.specs.State.{Registers, MidState, stuck}
use Rattle.mid_lines.specs.declared.line.Line.{Line}
use Rattle.mid_lines.specs.declared.line.Line.TheVariants.{Do, Jump}
use Rattle.mid_lines.specs.declared.line.LineProgram.{LineProgram}
use Rattle.mid_lines.specs.Lines.{line_of}
use Rattle.mid_lines.specs.LinesChecked.{is_checked_line_program}
use Rattle.mid_lines.specs.LineMeaning.{Activation, Caller, Stage, running, entering, ended, state_of, next}
use Rattle.back_places.specs.declared.place.Place.{Place}
use Rattle.back_places.specs.Places.{Located}
use Rattle.back_places.specs.Good.{IsGood}
use Rattle.back_places.specs.Relation.{Relates}

-- From one moment the machine comes to another in so many instructions. On the way it has not ended, and what it has printed is a
-- beginning of what it has printed there.
pub record Comes (count : ℕ) (m m' : Moment) : Type 0 where
  pub whole : (n : ℕ) → run_from (count + n) m ≡ run_from n m'
  pub goes_on : (n : ℕ) → n ≤ count → (run_from n m).ending ≡ Budget
  pub within : (n : ℕ) → n ≤ count → (rest : List ℕ) × ((run_from n m).at.printed ++ rest ≡ m'.printed)

-- A stage is heavy where a level or a turn may be taken next: at a call, and at a jump backwards.
abbrev pub line_weight : (line : ℕ) → Option Line → ℕ
line_weight line (Some (Do (Call to callee arguments))) = 1
line_weight line (Some (Jump to)) = if nat_le to line then 1 else 0
line_weight line x = 0

abbrev pub weight : LineProgram → Stage → ℕ
weight program (running a line rs callers z) = line_weight line (line_of program a.procedure line)
weight program (entering number arguments callers z) = 0
weight program (ended e z) = 0

-- a stage of which something is said: it is not stuck
abbrev pub IsLawful : Stage → Type 0
IsLawful (ended stuck z) = ⊥
IsLawful s = Unit {0}

-- The machine goes on to what comes one step later, in no more instructions than that costs, and in no fewer than the stage weighs.
pub record Follows
    (program : LineProgram) (l : Located) (Fact : (number line register : ℕ) → Place → Type 0) (first : List Block) (s : Stage) (m : Moment) : Type 0 where
  pub count : ℕ
  pub moment : Moment
  pub comes : Comes count m moment
  pub relates : Relates program l Fact first (next program s) moment
  pub cheap : count + (state_of s).cost ≤ (state_of (next program s)).cost
  pub heavy : IsLawful (next program s) → weight program s ≤ count

-- facts that a test tells
abbrev pub Known : (known : (number line register : ℕ) → Place → Bool) → (number line register : ℕ) → Place → Type 0
Known known number line register p = IsTrue (known number line register p)

-- where all is good, each step of lines from a line of this kind is matched
abbrev pub LawOfLine : (Line → Type 0) → Type 0
LawOfLine IsKind =
    (program : LineProgram) (l : Located) (known : (number line register : ℕ) → Place → Bool) (first : List Block)
    → is_checked_line_program program ≡ true → IsGood program l (Known known)
    → (a : Activation) (line : ℕ) (rs : Registers) (callers : List Caller) (z : MidState) (m : Moment) (x : Line)
    → line_of program a.procedure line ≡ Some x → IsKind x
    → Relates program l (Known known) first (running a line rs callers z) m
    → Follows program l (Known known) first (running a line rs callers z) m

-- and each step from an entry
abbrev pub LawOfEntries : Type 0
LawOfEntries =
    (program : LineProgram) (l : Located) (known : (number line register : ℕ) → Place → Bool) (first : List Block)
    → is_checked_line_program program ≡ true → IsGood program l (Known known)
    → (number : ℕ) (arguments : List ℕ) (callers : List Caller) (z : MidState) (m : Moment)
    → Relates program l (Known known) first (entering number arguments callers z) m
    → Follows program l (Known known) first (entering number arguments callers z) m

-- the whole law: wherever the stage is
abbrev pub LawOfSteps : Type 0
LawOfSteps =
    (program : LineProgram) (l : Located) (known : (number line register : ℕ) → Place → Bool) (first : List Block)
    → is_checked_line_program program ≡ true → IsGood program l (Known known)
    → (s : Stage) (m : Moment) → Relates program l (Known known) first s m → Follows program l (Known known) first s m
