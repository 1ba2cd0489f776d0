-- The relation between a stage of lines and a moment of the machine.
use Rattle.std.specs.Prelude.{◌≡◌, ◌≢◌, ◌≤◌, ◌<◌, ◌⊎◌, ℕ, ◌+◌, ◌-◌, ◌*◌, ◌%◌, ◌^◌, true, nat_lt, List, [], ◌∷◌, length, map, slice_get, slice_index, Option, Some, None, if◌then◌else◌}
use Rattle.rv_encode.specs.declared.instruction.Instr.{Instr}
use Rattle.rv_encode.specs.Encodes.{IsInstr, word_of}
use Rattle.rv_machine.specs.Memory.{bytes_of}
use Rattle.rv_machine.specs.declared.ending.Ending.TheVariants.{Budget}
use Rattle.rv_machine.specs.Run.{Moment, run_from}
use Rattle.rv_machine.specs.Step.{environment_call, step_of}
use Rattle.mid_code.specs.declared.operation.Callee.{Callee}
use Rattle.mid_code.specs.declared.operation.Operation.TheVariants.{Call}
use Rattle.mid_code.specs.Arena.{Arena, Block, BlockKind, activation_frame, open_record, closed_record, words_of, stack_from, is_lent, header_words}
use Rattle.mid_code.specs.State.{Registers, MidState, End, falls, returns, cuts, no_room, no_level, no_turn, halts, unhandled, exhausted, stuck, register}
use Rattle.mid_lines.specs.declared.line.Line.{Line}
use Rattle.mid_lines.specs.declared.line.Line.TheVariants.{Do, Switch}
use Rattle.mid_lines.specs.declared.line.LineProcedure.{LineProcedure}
use Rattle.mid_lines.specs.declared.line.LineProgram.{LineProgram}
use Rattle.mid_lines.specs.Lines.{line_of}
use Rattle.mid_lines.specs.LineMeaning.{Standing, Activation, Caller, Stage, running, entering, ended}
use Rattle.mid_lines.specs.StackLaw.{frame_of, blocks_of, StageStands}
use Rattle.back_places.specs.declared.place.Place.{Place}
use Rattle.back_places.specs.declared.place.Place.TheVariants.{InRegister, InSlot, AsConstant}
use Rattle.back_places.specs.Places.{StaticRecord, with_landing, only_lent, Located, argument_register}
use Rattle.back_places.specs.Blocks.{full_code, end_code}
use Rattle.back_places.specs.LineCode.{line_code, behind_code, entry_code}

-- these instructions stand in the words from a position on, and each is one
abbrev pub HasCode : (words : List ℕ) (at : ℕ) → List Instr → Type 0
HasCode words at [] = Unit {0}
HasCode words at (i ∷ more) = (at < length words) × (slice_index words at ≡ word_of i) × IsInstr i × HasCode words (at + 1) more

-- the same, among the words of code
pub record Stands (l : Located) (words : List ℕ) (at : ℕ) (code : List Instr) : Type 0 where
  pub from : l.code_from ≤ at
  pub to : at + length code ≤ l.code_to
  pub has : HasCode words at code

-- a word of a table is an address, among the words of code
pub record Names (l : Located) (words : List ℕ) (at position : ℕ) : Type 0 where
  pub from : l.code_from ≤ at
  pub to : at < l.code_to
  pub within : at < length words
  pub names : slice_index words at ≡ 4 * position

-- a word is at a place: in a register, in a word of the frame that begins at a word of the memory, or it is that constant
abbrev pub IsAt : (registers words : List ℕ) (base : ℕ) → Place → ℕ → Type 0
IsAt registers words base (InRegister r) w = slice_index registers r ≡ w
IsAt registers words base (InSlot k) w = slice_index words (base + k) ≡ w
IsAt registers words base (AsConstant c) w = c ≡ w

-- the first word of the frame of an activation, in an arena of so many words
abbrev pub base_of : LineProgram → (size : ℕ) → Activation → ℕ
base_of program size a = size - words_of (frame_of program a.procedure ∷ a.outer)

-- the words that code has for itself: those of frames, and the headers of control records
abbrev pub own_words : Block → BlockKind → ℕ
own_words b activation_frame = b.words
own_words b open_record = b.words - (b.words - header_words)
own_words b closed_record = b.words - (b.words - header_words)

abbrev pub IsPrivate : (size : ℕ) → List Block → ℕ → Type 0
IsPrivate size [] i = ⊥
IsPrivate size (b ∷ bs) i =
    ((size - words_of (b ∷ bs) ≤ i) × (i < size - words_of (b ∷ bs) + own_words b b.kind)) ⊎ IsPrivate size bs i

-- the arena is in form
pub record InForm (a : Arena) : Type 0 where
  pub small : length a.memory ≤ 2 ^ 24
  pub fits : words_of a.blocks ≤ length a.memory
  pub heap : (a.heap_from % 4 ≡ 0) × (a.heap_to % 4 ≡ 0)
  pub grown : a.heap_from ≤ a.heap_to
  pub below : a.heap_to ≤ stack_from a
  pub laid : a.laid_to ≤ a.heap_from

-- the records of an activation as code knows them
abbrev pub static_of : (words : ℕ) → (landing : Option ℕ) → StaticRecord
static_of words None = only_lent
static_of words (Some landing) = with_landing words landing

abbrev pub statics : List Standing → List StaticRecord
statics records = map (λ s. static_of s.words s.landing) records

-- the words of the memory are those that are lent and were stored
pub record HasArena (words : List ℕ) (a : Arena) : Type 0 where
  pub long : length words ≡ length a.memory
  pub words_small : (i : ℕ) → slice_index words i < 2 ^ 32
  pub lent : (i w : ℕ) → is_lent a (4 * i) ≡ true → slice_get a.memory i ≡ Some (Some w) → slice_index words i ≡ w

-- the words of arguments and of code are not lent: they stand behind the words laid, and below the heap
pub record IsApart (l : Located) (a : Arena) : Type 0 where
  pub laid_below : a.laid_to ≤ 4 * l.arguments_at
  pub arguments_below : l.arguments_at + l.argument_words ≤ l.code_from
  pub heap_above : 4 * l.code_to ≤ a.heap_from

-- an argument that is passed: in its register, or in its word
abbrev pub argument_in : (l : Located) (registers words : List ℕ) (i : ℕ) → ℕ
argument_in l registers words i =
    if nat_lt i 14 then slice_index registers (argument_register i) else slice_index words (l.arguments_at + i)

abbrev pub ArePassed : (l : Located) (registers words : List ℕ) (i : ℕ) → List ℕ → Type 0
ArePassed l registers words i [] = Unit {0}
ArePassed l registers words i (w ∷ more) = (argument_in l registers words i ≡ w) × ArePassed l registers words (i + 1) more

-- The machine waits for ever: with however many instructions more it has not ended, and has printed no more than a state has.
pub record WaitsForEver (z : MidState) (m : Moment) : Type 0 where
  pub goes_on : (n : ℕ) → (run_from n m).ending ≡ Budget
  pub printed : (n : ℕ) → (run_from n m).at.printed ≡ z.printed

-- the code of the program and its tables stand in the words
pub record HasProgram (program : LineProgram) (l : Located) (words : List ℕ) : Type 0 where
  pub lines :
      (number line : ℕ) (x : Line) → line_of program number line ≡ Some x
      → Stands l words (l.line_at number line) (line_code l number (frame_of program number).words line x)
  pub backs :
      (number line : ℕ) (x : Line) → line_of program number line ≡ Some x
      → Stands l words (l.back_at number line) (behind_code l number line x)
  pub switches :
      (number line r : ℕ) (targets : List ℕ) (i to : ℕ) → line_of program number line ≡ Some (Switch r targets) → slice_get targets i ≡ Some to
      → Names l words (l.table_at number line + i) (l.line_at number to)
  pub entries :
      (number : ℕ) (p : LineProcedure) → slice_get program.procedures number ≡ Some p
      → Stands l words (l.entry_at number) (entry_code l number p.frame)
  pub table :
      (number : ℕ) (p : LineProcedure) → slice_get program.procedures number ≡ Some p
      → Names l words (l.procedures_at + number) (l.entry_at number)
  pub full : Stands l words l.full_at full_code
  pub end : Stands l words l.end_at end_code

-- What must be where: `Fact number line register place` says that the word of a register is at a place when the line begins.
module _ (program : LineProgram) (l : Located) (Fact : (number line register : ℕ) → Place → Type 0) (first : List Block) where
  -- where register words are, at a line
  abbrev pub AreThere : (registers words : List ℕ) (base number line : ℕ) → Registers → Type 0
  AreThere registers words base number line rs =
      (v : ℕ) (p : Place) (w : ℕ) → Fact number line v p → register v rs ≡ Some w → IsAt registers words base p w

  -- The first word of a control record is the address of its landing. The second one of a block that is only lent is the stack pointer of
  -- before.
  abbrev pub HeadHolds : (words : List ℕ) → (at outside number : ℕ) → (landing : Option ℕ) → Type 0
  HeadHolds words at outside number (Some landing) = slice_index words at ≡ 4 * l.line_at number landing
  HeadHolds words at outside number None = slice_index words (at + 1) ≡ 4 * outside

  abbrev pub HeadsHold : (words : List ℕ) (size : ℕ) → Activation → List Standing → Type 0
  HeadsHold words size a [] = Unit {0}
  HeadsHold words size a (s ∷ records) =
      HeadHolds words (size - words_of (blocks_of program a (s ∷ records))) (size - words_of (blocks_of program a records)) a.procedure s.landing
      × HeadsHold words size a records

  -- what must be where at the landings of records, with no registers: a cut comes from wherever
  abbrev pub LandingHolds : (words : List ℕ) (base number : ℕ) → Registers → (landing : Option ℕ) → Type 0
  LandingHolds words base number rs None = Unit {0}
  LandingHolds words base number rs (Some landing) = AreThere [] words base number landing rs

  abbrev pub LandingsHold : (words : List ℕ) (base number : ℕ) → Registers → List Standing → Type 0
  LandingsHold words base number rs [] = Unit {0}
  LandingsHold words base number rs (s ∷ records) = LandingHolds words base number rs s.landing × LandingsHold words base number rs records

  -- a caller waits at a call, and the code behind its jump goes on at an address
  pub record Waits (words : List ℕ) (size : ℕ) (c : Caller) (link : ℕ) : Type 0 where
    pub at : ℕ
    pub callee : Callee
    pub arguments : List ℕ
    pub behind : c.line ≡ at + 1
    pub is_call : line_of program c.activation.procedure at ≡ Some (Do (Call c.result callee arguments))
    pub link_is : link ≡ 4 * l.back_at c.activation.procedure at
    pub there :
        (v : ℕ) (p : Place) (w : ℕ) → Fact c.activation.procedure c.line v p → v ≢ c.result → register v c.registers ≡ Some w
        → IsAt [] words (base_of program size c.activation) p w
    pub landings : LandingsHold words (base_of program size c.activation) c.activation.procedure c.registers c.activation.standing
    pub records_are : l.records c.activation.procedure at ≡ statics c.activation.standing
    pub heads : HeadsHold words size c.activation c.activation.standing
    pub saves : l.saves c.activation.procedure ≡ true

  -- the callers wait, the innermost for a return to an address; each has its own return address in the first word of its frame
  abbrev pub CallersWait : (words : List ℕ) (size : ℕ) → List Caller → (link : ℕ) → Type 0
  CallersWait words size [] link = link ≡ 4 * l.end_at
  CallersWait words size (c ∷ callers) link =
      Waits words size c link × CallersWait words size callers (slice_index words (base_of program size c.activation))

  -- what holds wherever code runs
  pub record Machine (z : MidState) (words : List ℕ) (m : Moment) : Type 0 where
    pub memory : m.state.memory ≡ bytes_of words
    pub arena : HasArena words z.arena
    pub code : HasProgram program l words
    pub apart : IsApart l z.arena
    pub form : InForm z.arena
    pub long : length m.state.registers ≡ 32
    pub zero_is : slice_index m.state.registers 0 ≡ 0
    pub registers_small : (r : ℕ) → slice_index m.state.registers r < 2 ^ 32
    pub stack : slice_index m.state.registers 2 ≡ stack_from z.arena
    pub heap : slice_index m.state.registers 3 ≡ z.arena.heap_to
    pub printed : m.printed ≡ z.printed
    pub input : m.input ≡ z.input
    pub input_small : (i : ℕ) → slice_index z.input i < 2 ^ 32

  -- the return address of the activation that runs
  pub record Links (registers words : List ℕ) (base number line link : ℕ) : Type 0 where
    pub linked : l.linked number line ≡ true → slice_index registers 1 ≡ link
    pub saved : l.saves number ≡ true → slice_index words base ≡ link

  -- the machine stands at a position of the code of an activation, whose records are known
  pub record Point (a : Activation) (at : ℕ) (known : List StaticRecord) (callers : List Caller) (z : MidState) (m : Moment) : Type 0 where
    pub words : List ℕ
    pub link : ℕ
    pub machine : Machine z words m
    pub pc : m.state.pc ≡ 4 * at
    pub saved : l.saves a.procedure ≡ true → slice_index words (base_of program (length z.arena.memory) a) ≡ link
    pub records_are : known ≡ statics a.standing
    pub heads : HeadsHold words (length z.arena.memory) a a.standing
    pub waiting : CallersWait words (length z.arena.memory) callers link

  -- the machine stands at a line of an activation, with its registers
  pub record Runs (a : Activation) (line : ℕ) (rs : Registers) (callers : List Caller) (z : MidState) (m : Moment) : Type 0 where
    pub words : List ℕ
    pub link : ℕ
    pub machine : Machine z words m
    pub pc : m.state.pc ≡ 4 * l.line_at a.procedure line
    pub there : AreThere m.state.registers words (base_of program (length z.arena.memory) a) a.procedure line rs
    pub links : Links m.state.registers words (base_of program (length z.arena.memory) a) a.procedure line link
    pub records_are : l.records a.procedure line ≡ statics a.standing
    pub heads : HeadsHold words (length z.arena.memory) a a.standing
    pub waiting : CallersWait words (length z.arena.memory) callers link

  -- arguments are passed, the return address is in register 1, and the machine stands at the entry
  pub record Enters (number : ℕ) (arguments : List ℕ) (callers : List Caller) (z : MidState) (m : Moment) : Type 0 where
    pub words : List ℕ
    pub machine : Machine z words m
    pub pc : m.state.pc ≡ 4 * l.entry_at number
    pub passed : ArePassed l m.state.registers words 0 arguments
    pub waiting : CallersWait words (length z.arena.memory) callers (slice_index m.state.registers 1)

  -- where there is no procedure of that number, lines are stuck one step later
  abbrev pub EntersIn : Option LineProcedure → (number : ℕ) → (arguments : List ℕ) → List Caller → MidState → Moment → Type 0
  EntersIn None number arguments callers z m = Unit {0}
  EntersIn (Some p) number arguments callers z m = Enters number arguments callers z m

  -- an end: the machine is at an environment call with its words, and its memory has those of the arena
  pub record Calls (which : ℕ) (z : MidState) (m : Moment) : Type 0 where
    pub words : List ℕ
    pub memory : m.state.memory ≡ bytes_of words
    pub arena : HasArena words z.arena
    pub is_call : step_of m.state ≡ environment_call which
    pub printed : m.printed ≡ z.printed
    pub input : m.input ≡ z.input

  -- Where serial numbers are exhausted, the machine waits. Where lines are stuck, nothing is said; to the other ends without an environment
  -- call lines do not come.
  abbrev pub EndsAt : End → MidState → Moment → Type 0
  EndsAt (halts w) z m = Calls 0 z m × (slice_index m.state.registers 10 ≡ w)
  EndsAt (returns w) z m = Calls 0 z m × (slice_index m.state.registers 10 ≡ w)
  EndsAt (unhandled class site condition) z m =
      Calls 3 z m × (slice_index m.state.registers 10 ≡ class) × (slice_index m.state.registers 11 ≡ site)
      × (slice_index m.state.registers 12 ≡ condition)
  EndsAt (no_room asked left) z m =
      Calls 4 z m × (slice_index m.state.registers 10 ≡ asked) × (slice_index m.state.registers 11 ≡ left)
  EndsAt falls z m = ⊥
  EndsAt (cuts n w) z m = ⊥
  EndsAt no_level z m = ⊥
  EndsAt no_turn z m = ⊥
  EndsAt exhausted z m = WaitsForEver z m
  EndsAt stuck z m = Unit {0}

  -- a stage and a moment
  abbrev pub Relates : Stage → Moment → Type 0
  Relates (running a line rs callers z) m = StageStands program first (running a line rs callers z) × Runs a line rs callers z m
  Relates (entering number arguments callers z) m =
      StageStands program first (entering number arguments callers z) × EntersIn (slice_get program.procedures number) number arguments callers z m
  Relates (ended e z) m = EndsAt e z m
