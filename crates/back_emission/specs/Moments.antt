-- The machine from one moment to another: states by their position in the words of a memory, and code that changes registers alone.
use Rattle.std.specs.Prelude.{◌≡◌, ◌<◌, ◌≤◌, ℕ, ◌+◌, ◌*◌, ◌^◌, ◌==◌, List, length, slice_index, slice_set, if◌then◌else◌}
use Rattle.rv_encode.specs.declared.instruction.Instr.{Instr}
use Rattle.rv_machine.specs.Memory.{bytes_of}
use Rattle.rv_machine.specs.State.{State}
use Rattle.rv_machine.specs.Run.{Moment}
use Rattle.back_places.specs.Places.{Way, from_stack, past_lent, no_way}
use Rattle.back_places.specs.Relation.{HasCode}
use Rattle.back_places.specs.StepLaw.{Comes}

-- a state at a word of the memory
abbrev pub state_at : (i : ℕ) → (registers words : List ℕ) → State
state_at i registers words = record { pc = 4 * i; registers = registers; memory = bytes_of words }

-- what a moment has beside its state: what was printed, what is left of the input, how many instructions were executed, and how many gets
pub record Beside : Type 0 where
  pub printed : List ℕ
  pub input : List ℕ
  pub executed : ℕ
  pub gets : ℕ

abbrev pub later : ℕ → Beside → Beside
later n o = record o { executed = o.executed + n }

abbrev pub moment : State → Beside → Moment
moment s o = record { state = s; input = o.input; printed = o.printed; executed = o.executed; gets = o.gets }

-- what a moment has beside its state
abbrev pub beside : Moment → Beside
beside m = record { printed = m.printed; input = m.input; executed = m.executed; gets = m.gets }

-- all words of a list are words
abbrev pub AreSmall : List ℕ → Type 0
AreSmall words = (i : ℕ) → slice_index words i < 2 ^ 32

-- code that runs from its first word to behind its last one, and changes registers alone
pub record Sets (words : List ℕ) (code : List Instr) (registers registers' : List ℕ) : Type 0 where
  pub by :
      (i : ℕ) (o : Beside) → HasCode words i code → i + length code < 2 ^ 25
      → Comes (length code) (moment (state_at i registers words) o) (moment (state_at (i + length code) registers' words) (later (length code) o))

-- the registers with a word in one
abbrev pub with_word_in : (rd value : ℕ) → List ℕ → List ℕ
with_word_in rd value registers = if rd == 0 then registers else slice_set registers rd value

-- 32 registers of which number 0 is 0
pub record Ready (registers : List ℕ) : Type 0 where
  pub long : length registers ≡ 32
  pub zero_is : slice_index registers 0 ≡ 0

-- code that brings a word into a register; but for a scratch register, and register 7, all are as before
pub record Prepared (words registers : List ℕ) (code : List Instr) (to word scratch : ℕ) : Type 0 where
  pub registers' : List ℕ
  pub sets : Sets words code registers registers'
  pub holds : slice_index registers' to ≡ word
  pub others : (q : ℕ) → (q ≡ scratch → ⊥) → (q ≡ 7 → ⊥) → slice_index registers' q ≡ slice_index registers q
  pub bounded : AreSmall registers → AreSmall registers'
  pub ready : Ready registers'

-- The first word of a frame, from the stack pointer: above it, or above that of before, which is the second word at the stack pointer.
abbrev pub LeadsTo : (registers words : List ℕ) → Way → (base : ℕ) → Type 0
LeadsTo registers words (from_stack depth) base = slice_index registers 2 + 4 * depth ≡ 4 * base
LeadsTo registers words (past_lent depth) base =
    (block : ℕ) × (slice_index registers 2 ≡ 4 * block) × (block + 1 < length words) × (slice_index words (block + 1) + 4 * depth ≡ 4 * base)
LeadsTo registers words no_way base = Unit {0}

-- where the frame is, and that its words are there
pub record Frame (registers words : List ℕ) (way : Way) (base frame : ℕ) : Type 0 where
  pub leads : LeadsTo registers words way base
  pub inside : base + frame ≤ length words
  pub memory_small : length words ≤ 2 ^ 24
