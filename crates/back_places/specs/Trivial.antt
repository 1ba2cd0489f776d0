-- The trivial allocation: each register has a slot of its own, at each line, and nothing is in a machine register across lines.
use Rattle.std.specs.Prelude.{◌≡◌, ◌≤◌, ◌<◌, ℕ, zero, suc, ◌+◌, true, false, List, [], ◌∷◌, length, slice_get, Some}
use Rattle.mid_lines.specs.declared.line.Line.{Line}
use Rattle.mid_lines.specs.declared.line.LineProcedure.{LineProcedure}
use Rattle.mid_lines.specs.declared.line.LineProgram.{LineProgram}
use Rattle.mid_lines.specs.declared.line.Line.TheVariants.{Do, Branch, Switch, Jump, Lay, Landed, GiveBack, Lend, GiveBackLent, Return}
use Rattle.mid_code.specs.declared.operation.Operation.TheVariants as operation
use Rattle.mid_lines.specs.Lines.{line_of}
use Rattle.mid_lines.specs.LinesChecked.{is_checked_line_program}
use Rattle.mid_lines.specs.StackLaw.{frame_of}
use Rattle.back_places.specs.declared.place.Place.{Place}
use Rattle.back_places.specs.declared.place.Place.TheVariants.{InSlot}
use Rattle.back_places.specs.Places.{StaticRecord, with_landing, only_lent, Located, way_at, is_from_stack, reachable}
use Rattle.back_places.specs.Facts.{IsPlace, GoodLine, GoodEntry}
use Rattle.back_places.specs.Good.{reach_at}

-- a slot of its own: the one behind the return address and the slots of the registers before
abbrev pub own_slot : (register : ℕ) → Place
own_slot v = InSlot (v + 1)

-- what is known at each line: a register of the procedure is in its slot
pub record InOwnSlot (program : LineProgram) (number line register : ℕ) (place : Place) : Type 0 where
  pub place_is : place ≡ own_slot register
  pub procedure : LineProcedure
  pub there : slice_get program.procedures number ≡ Some procedure
  pub within : register < procedure.registers

-- so many parameters, from a register on
abbrev pub own_slots : (register count : ℕ) → List Place
own_slots v zero = []
own_slots v (suc count) = own_slot v ∷ own_slots (v + 1) count

-- the word that a line gives goes to the slot of its register
abbrev pub TargetIs : Place → Line → Type 0
TargetIs target (Do (operation.Move to from)) = target ≡ own_slot to
TargetIs target (Do (operation.Constant to word)) = target ≡ own_slot to
TargetIs target (Do (operation.Compute to which first second)) = target ≡ own_slot to
TargetIs target (Do (operation.Load to base offset)) = target ≡ own_slot to
TargetIs target (Do (operation.Request to words)) = target ≡ own_slot to
TargetIs target (Do (operation.Draw to base offset)) = target ≡ own_slot to
TargetIs target (Do (operation.Get to)) = target ≡ own_slot to
TargetIs target (Do (operation.Call to callee arguments)) = target ≡ own_slot to
TargetIs target (Lay block words landing) = target ≡ own_slot block
TargetIs target (Lend block words) = target ≡ own_slot block
TargetIs target (Landed r) = target ≡ own_slot r
TargetIs target x = Unit {0}

-- The records that stand follow the lines: they are the same along each edge, one more behind a line that lays one, one fewer
-- behind a line that gives one back, and at a landing those from its record on.
abbrev pub ToRecords : Located → (number : ℕ) → List StaticRecord → Type 0
ToRecords l number [] = Unit {0}
ToRecords l number (with_landing words landing ∷ records) = (l.records number landing ≡ with_landing words landing ∷ records) × ToRecords l number records
ToRecords l number (only_lent ∷ records) = ToRecords l number records

abbrev pub SameRecords : Located → (number line : ℕ) → (next : List ℕ) → Type 0
SameRecords l number line [] = Unit {0}
SameRecords l number line (next ∷ more) = (l.records number next ≡ l.records number line) × SameRecords l number line more

abbrev pub RecordsFollow : Located → (number line : ℕ) → Line → Type 0
RecordsFollow l number line (Do o) = l.records number (line + 1) ≡ l.records number line
RecordsFollow l number line (Branch t otherwise) =
    (l.records number (line + 1) ≡ l.records number line) × (l.records number otherwise ≡ l.records number line)
RecordsFollow l number line (Switch r targets) = SameRecords l number line targets
RecordsFollow l number line (Jump to) = l.records number to ≡ l.records number line
RecordsFollow l number line (Lay block words landing) =
    l.records number (line + 1) ≡ with_landing words landing ∷ l.records number line
RecordsFollow l number line (Lend block words) = l.records number (line + 1) ≡ only_lent ∷ l.records number line
RecordsFollow l number line (Landed r) = l.records number (line + 1) ≡ l.records number line
RecordsFollow l number line (GiveBack words) = (s : StaticRecord) × (l.records number line ≡ s ∷ l.records number (line + 1))
RecordsFollow l number line GiveBackLent = (s : StaticRecord) × (l.records number line ≡ s ∷ l.records number (line + 1))
RecordsFollow l number line (Return r) = is_from_stack (way_at l number line) ≡ true
RecordsFollow l number line x = Unit {0}

-- how many arguments a line passes are words for
abbrev pub ArgumentsFit : Located → Line → Type 0
ArgumentsFit l (Do (operation.Call to callee arguments)) = length arguments ≤ l.argument_words
ArgumentsFit l x = Unit {0}

-- Each register is read from its slot and given to its slot; the return address is always taken from the frame.
pub record IsTrivial (program : LineProgram) (l : Located) : Type 0 where
  pub sources : (number line v : ℕ) → l.source number line v ≡ own_slot v
  pub targets : (number line : ℕ) (x : Line) → line_of program number line ≡ Some x → TargetIs (l.target number line) x
  pub parameters : (number : ℕ) (p : LineProcedure) → slice_get program.procedures number ≡ Some p → l.parameters number ≡ own_slots 0 p.parameters
  pub unlinked : (number line : ℕ) → l.linked number line ≡ false
  pub saves : (number : ℕ) → l.saves number ≡ true
  pub records : (number line : ℕ) (x : Line) → line_of program number line ≡ Some x → RecordsFollow l number line x
  pub landings : (number line : ℕ) → ToRecords l number (l.records number line)
  pub first : (number : ℕ) → l.records number 0 ≡ []
  pub arguments : (number line : ℕ) (x : Line) → line_of program number line ≡ Some x → ArgumentsFit l x
  -- the frame has a word for each register and one for the return address, and all are within reach at each line
  pub frames : (number : ℕ) (p : LineProcedure) → slice_get program.procedures number ≡ Some p → p.registers < p.frame
  pub reach : (number line : ℕ) (p : LineProcedure) → slice_get program.procedures number ≡ Some p → p.registers < reachable (way_at l number line) p.frame
  pub few : (number : ℕ) (p : LineProcedure) → slice_get program.procedures number ≡ Some p → p.parameters ≤ l.argument_words

-- with it, facts flow along all lines, and from each entry, and are of places that may be
abbrev pub LawOfOwnSlots : Type 0
LawOfOwnSlots =
    (program : LineProgram) (l : Located) → is_checked_line_program program ≡ true → IsTrivial program l
    → ((number line : ℕ) (x : Line) → line_of program number line ≡ Some x → GoodLine l (InOwnSlot program) number line x)
    × ((number : ℕ) (p : LineProcedure) → slice_get program.procedures number ≡ Some p → GoodEntry l (InOwnSlot program) number p.frame p.parameters)
    × ((number line v : ℕ) (p : Place) → InOwnSlot program number line v p → IsPlace (frame_of program number).words p)
    × ((number line v : ℕ) → InOwnSlot program number line v (l.source number line v) → IsPlace (reach_at program l number line) (l.source number line v))
