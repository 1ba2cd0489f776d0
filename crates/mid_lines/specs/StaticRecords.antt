-- Which records stand at a line, as far as the line alone tells. The records at the lines of a tree, how those of a line follow from
-- those of the lines that lead to it, and the laws that they are those of the activations.
use Rattle.std.specs.Prelude.{◌≡◌, ℕ, ◌+◌, List, [], ◌∷◌, ◌++◌, map, slice_get, Option, Some, None}
use Rattle.mid_code.specs.declared.program.MidProcedure.{MidProcedure}
use Rattle.mid_code.specs.declared.program.MidProgram.{MidProgram}
use Rattle.mid_code.specs.MidCode.{MidStep, perform, choose, switch, repeat, with_block, lend, return_word, cut_to, halt_with, end_unhandled, MidCode, no_step, step_and, MidCodes, no_code, code_and, code_of}
use Rattle.mid_code.specs.State.{MidState}
use Rattle.mid_lines.specs.declared.line.Line.{Line}
use Rattle.mid_lines.specs.declared.line.Line.TheVariants.{Do, Branch, Switch, Jump, Lay, Landed, GiveBack, Lend, GiveBackLent, Return, Cut, Halt, Unhandled}
use Rattle.mid_lines.specs.declared.line.LineProgram.{LineProgram}
use Rattle.mid_lines.specs.Lines.{line_of}
use Rattle.mid_lines.specs.LineMeaning.{Standing, Activation, Caller, Stage, running, entering, ended, begin, after}
use Rattle.mid_lines.specs.Flattened.{step_line_count, line_count, program_lines}

-- a control record, with the words that it lends and the line of its landing, or a block that is only lent, whose words a run alone knows
pub data StaticRecord : Type 0 where
  of_landing : (words landing : ℕ) → StaticRecord
  only_lent : StaticRecord

-- the records at each line of a step, and of code, from a line on, inside of other ones; the innermost is the first
abbrev mutual
  pub step_records : (at : ℕ) → MidStep → (outer : List StaticRecord) → List (List StaticRecord)
  step_records at (perform o) outer = outer ∷ []
  step_records at (choose t first second) outer =
      outer ∷ (code_records (at + 1) first outer ++ (outer ∷ (code_records (at + 1 + line_count first + 1) second outer ++ outer ∷ [])))
  step_records at (switch r codes) outer = outer ∷ codes_records (at + 1) codes outer
  step_records at (repeat counted head t body) outer =
      code_records at head outer ++ (outer ∷ (code_records (at + line_count head + 1) body outer ++ outer ∷ []))
  step_records at (with_block block words word inside landing) outer =
      let own : List StaticRecord = of_landing words (at + 1 + line_count inside + 2) ∷ outer in
      outer ∷ (code_records (at + 1) inside own ++ (own ∷ outer ∷ own ∷ (code_records (at + 1 + line_count inside + 3) landing own ++ own ∷ [])))
  step_records at (lend block words inside) outer =
      let own : List StaticRecord = only_lent ∷ outer in
      outer ∷ (code_records (at + 1) inside own ++ own ∷ [])
  step_records at (return_word r) outer = outer ∷ []
  step_records at (cut_to block word) outer = outer ∷ []
  step_records at (halt_with r) outer = outer ∷ []
  step_records at (end_unhandled class site condition) outer = outer ∷ []

  pub code_records : (at : ℕ) → MidCode → (outer : List StaticRecord) → List (List StaticRecord)
  code_records at no_step outer = []
  code_records at (step_and s c) outer = step_records at s outer ++ code_records (at + step_line_count s) c outer

  pub codes_records : (at : ℕ) → MidCodes → (outer : List StaticRecord) → List (List StaticRecord)
  codes_records at no_code outer = []
  codes_records at (code_and c codes) outer = code_records at c outer ++ (outer ∷ codes_records (at + line_count c + 1) codes outer)

-- the records at a line; none where it is not there
abbrev pub records_in : Option (List StaticRecord) → List StaticRecord
records_in None = []
records_in (Some records) = records

abbrev pub procedure_records : Option MidProcedure → List (List StaticRecord)
procedure_records None = []
procedure_records (Some p) = code_records 0 (code_of p.body) []

-- the records at a line of the procedure of a number
abbrev pub records_at : MidProgram → (number line : ℕ) → List StaticRecord
records_at program number line = records_in (slice_get (procedure_records (slice_get program.procedures number)) line)

-- Records given for each line of a procedure go along with a line: the same stand at the lines to which it leads, and one more or one less
-- behind a line that lays one or gives it back. At the landing of a record it stands still, and so do those outside it.
abbrev pub LineFlows : (at : ℕ → List StaticRecord) → (line : ℕ) → Line → Type 0
LineFlows at line (Do o) = at (line + 1) ≡ at line
LineFlows at line (Branch t otherwise) = (at (line + 1) ≡ at line) × (at otherwise ≡ at line)
LineFlows at line (Switch r targets) = (n to : ℕ) → slice_get targets n ≡ Some to → at to ≡ at line
LineFlows at line (Jump to) = at to ≡ at line
LineFlows at line (Lay block words landing) =
    (at (line + 1) ≡ of_landing words landing ∷ at line) × (at landing ≡ of_landing words landing ∷ at line)
LineFlows at line (Landed r) = at (line + 1) ≡ at line
LineFlows at line (GiveBack words) = (landing : ℕ) × (at line ≡ of_landing words landing ∷ at (line + 1))
LineFlows at line (Lend block words) = at (line + 1) ≡ only_lent ∷ at line
LineFlows at line GiveBackLent = at line ≡ only_lent ∷ at (line + 1)
LineFlows at line (Return r) = Unit {0}
LineFlows at line (Cut block word) = Unit {0}
LineFlows at line (Halt r) = Unit {0}
LineFlows at line (Unhandled class site condition) = Unit {0}

-- so it is at each line of a program, and no record stands where a procedure is entered
pub record RecordsFlow (program : LineProgram) (at : (number line : ℕ) → List StaticRecord) : Type 0 where
  pub entry : (number : ℕ) → at number 0 ≡ []
  pub lines : (number line : ℕ) (x : Line) → line_of program number line ≡ Some x → LineFlows (at number) line x

-- the records of a tree go along with its lines
abbrev pub LawOfRecords : Type 0
LawOfRecords = (program : MidProgram) → RecordsFlow (program_lines program) (records_at program)

-- what is known from the line of a record that stands
abbrev pub static_in : (landing : Option ℕ) → (words : ℕ) → StaticRecord
static_in None words = only_lent
static_in (Some landing) words = of_landing words landing

abbrev pub static_of : Standing → StaticRecord
static_of s = static_in s.landing s.words

-- the records of an activation that stands at a line are those at the line
abbrev pub ActivationHas : ((number line : ℕ) → List StaticRecord) → Activation → (line : ℕ) → Type 0
ActivationHas at a line = map static_of a.standing ≡ at a.procedure line

-- so it is for each caller, which stands at the line behind its call
abbrev pub CallersHave : ((number line : ℕ) → List StaticRecord) → List Caller → Type 0
CallersHave at [] = Unit {0}
CallersHave at (c ∷ callers) = ActivationHas at c.activation c.line × CallersHave at callers

abbrev pub StageHas : ((number line : ℕ) → List StaticRecord) → Stage → Type 0
StageHas at (running a line rs callers z) = ActivationHas at a line × CallersHave at callers
StageHas at (entering number arguments callers z) = CallersHave at callers
StageHas at (ended e z) = Unit {0}

-- records that go along with the lines of a program are those that stand, at each stage of a run
abbrev pub LawOfStandingRecords : Type 0
LawOfStandingRecords =
    (program : LineProgram) (at : (number line : ℕ) → List StaticRecord) → RecordsFlow program at
    → (entry : ℕ) (arguments : List ℕ) (z : MidState) (steps : ℕ) → StageHas at (after program steps (begin entry arguments z))
