-- What is decided for the lines of a tree when each register has a slot of its own, and when that is good but for positions.
use Rattle.std.specs.Prelude.{◌≡◌, ◌≤◌, ◌<◌, ℕ, ◌+◌, ◌^◌, ◌==◌, Bool, true, false, ◌&&◌, nat_lt, List, [], length, slice_get, Option, Some, None}
use Rattle.mid_code.specs.declared.operation.Operation.{Operation}
use Rattle.mid_code.specs.declared.operation.Operation.TheVariants as operation
use Rattle.mid_code.specs.declared.program.MidProgram.{MidProgram}
use Rattle.mid_lines.specs.declared.line.Line.{Line}
use Rattle.mid_lines.specs.declared.line.Line.TheVariants.{Do, Lay, Landed, Lend}
use Rattle.mid_lines.specs.declared.line.LineProcedure.{LineProcedure}
use Rattle.mid_lines.specs.declared.line.LineProgram.{LineProgram}
use Rattle.mid_lines.specs.Lines.{line_of}
use Rattle.mid_lines.specs.Flattened.{program_lines}
use Rattle.mid_lines.specs.StackLaw.{frame_of}
use Rattle.back_places.specs.declared.place.Place.{Place}
use Rattle.back_places.specs.declared.place.Place.TheVariants.{InRegister, InSlot, AsConstant}
use Rattle.back_places.specs.Places.{Located}
use Rattle.back_places.specs.Facts.{IsPlace, GoodLine, GoodEntry}
use Rattle.back_places.specs.LineCode.{entry_code}
use Rattle.back_places.specs.Good.{reach_at, Laid, LaysOne}
use Rattle.back_places.specs.Trivial.{own_slot, own_slots, ArgumentsFit}
use Rattle.back_trivial.specs.KnownRecords.{tree_records}

-- where no word is given
abbrev pub no_target : Place
no_target = AsConstant 0

-- the slot of the register to which an operation, and a line, gives a word
abbrev pub operation_target : Operation → Place
operation_target (operation.Move to from) = own_slot to
operation_target (operation.Constant to word) = own_slot to
operation_target (operation.Compute to which first second) = own_slot to
operation_target (operation.Load to base offset) = own_slot to
operation_target (operation.Store from base offset) = no_target
operation_target (operation.Request to words) = own_slot to
operation_target (operation.Draw to base offset) = own_slot to
operation_target (operation.Put from) = no_target
operation_target (operation.Get to) = own_slot to
operation_target (operation.Call to callee arguments) = own_slot to

abbrev pub line_target : Line → Place
line_target (Do o) = operation_target o
line_target (Lay block words landing) = own_slot block
line_target (Landed r) = own_slot r
line_target (Lend block words) = own_slot block
line_target x = no_target

abbrev pub target_in : Option Line → Place
target_in None = no_target
target_in (Some x) = line_target x

abbrev pub parameters_in : Option LineProcedure → List Place
parameters_in None = []
parameters_in (Some p) = own_slots 0 p.parameters

abbrev pub is_there : Option LineProcedure → Bool
is_there None = false
is_there (Some p) = true

-- The decisions for the lines of a tree: registers are read from their own slots and given to them, the records are those of the tree, and each
-- procedure keeps its return address in its frame, and takes it from there. Positions are as in other decisions.
abbrev pub with_own_slots : MidProgram → Located → Located
with_own_slots program l = record l {
  source = λ number line v. own_slot v;
  target = λ number line. target_in (line_of (program_lines program) number line);
  parameters = λ number. parameters_in (slice_get (program_lines program).procedures number);
  records = tree_records program;
  linked = λ number line. false;
  saves = λ number. is_there (slice_get (program_lines program).procedures number);
}

-- there are words for the arguments of each call, and for the parameters of each procedure
pub record PassesArguments (program : LineProgram) (l : Located) : Type 0 where
  pub calls : (number line : ℕ) (x : Line) → line_of program number line ≡ Some x → ArgumentsFit l x
  pub entries : (number : ℕ) (p : LineProcedure) → slice_get program.procedures number ≡ Some p → p.parameters ≤ l.argument_words

-- what is known at each line, as a test: a register of the procedure is in its slot
abbrev pub registers_in : Option LineProcedure → ℕ
registers_in None = 0
registers_in (Some p) = p.registers

abbrev pub is_slot_of : (register : ℕ) → Place → Bool
is_slot_of v (InRegister r) = false
is_slot_of v (InSlot k) = k == v + 1
is_slot_of v (AsConstant w) = false

abbrev pub is_in_own_slot : LineProgram → (number line register : ℕ) → Place → Bool
is_in_own_slot program number line v p = nat_lt v (registers_in (slice_get program.procedures number)) && is_slot_of v p

-- Decisions are good but for positions: facts flow along all lines and from all entries, and all places are within the frame and within
-- reach.
pub record IsPlacedWell (program : LineProgram) (l : Located) (Fact : (number line register : ℕ) → Place → Type 0) : Type 0 where
  pub lines : (number line : ℕ) (x : Line) → line_of program number line ≡ Some x → GoodLine l Fact number line x
  pub entries : (number : ℕ) (p : LineProcedure) → slice_get program.procedures number ≡ Some p → GoodEntry l Fact number p.frame p.parameters
  pub placed : (number line v : ℕ) (p : Place) → Fact number line v p → IsPlace (frame_of program number).words p
  pub sources : (number line v : ℕ) → Fact number line v (l.source number line v) → IsPlace (reach_at program l number line) (l.source number line v)
  pub targets : (number line : ℕ) → IsPlace (reach_at program l number line) (l.target number line)
  pub behind : (number line : ℕ) (x : Line) → line_of program number line ≡ Some x → LaysOne x → IsPlace (reach_at program l number (line + 1)) (l.target number line)
  pub frames : (number : ℕ) → l.saves number ≡ true → 0 < (frame_of program number).words

-- positions are good: code stands line behind line, and is not too long
pub record IsLaidWell (program : LineProgram) (l : Located) : Type 0 where
  pub laid : (number line : ℕ) (x : Line) → line_of program number line ≡ Some x → Laid l number (frame_of program number).words line x
  pub begins :
      (number : ℕ) (p : LineProcedure) → slice_get program.procedures number ≡ Some p → l.line_at number 0 ≡ l.entry_at number + length (entry_code l number p.frame)
  pub within : (number line : ℕ) → l.line_at number line ≤ l.code_to
  pub low : l.code_to < 2 ^ 24
