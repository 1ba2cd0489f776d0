-- A block is laid: what is known before, what holds where there is room, and the law of it.
use Rattle.std.specs.Prelude.{◌≡◌, ◌<◌, ◌≤◌, ℕ, ◌+◌, ◌-◌, ◌*◌, ◌^◌, Bool, List, ◌++◌, length, slice_index}
use Rattle.rv_encode.specs.declared.instruction.Instr.{Instr}
use Rattle.rv_machine.specs.Memory.{bytes_of}
use Rattle.rv_machine.specs.Run.{Moment}
use Rattle.mid_code.specs.Arena.{Block, left, with_new_block}
use Rattle.mid_code.specs.State.{MidState, with_arena}
use Rattle.mid_lines.specs.declared.line.LineProgram.{LineProgram}
use Rattle.back_places.specs.declared.place.Place.{Place}
use Rattle.back_places.specs.Places.{Located}
use Rattle.back_places.specs.Blocks.{room_code}
use Rattle.back_places.specs.Relation.{HasCode, Machine}
use Rattle.back_places.specs.StepLaw.{Comes, Known}
use Rattle.back_emission.specs.Moments.{state_at, later, moment, beside, AreSmall, Ready}

-- a moment at a position, where so many words are asked for: the stack pointer and the heap's end
pub record Asking (m : Moment) (at : ℕ) (words : List ℕ) (sp hp n : ℕ) : Type 0 where
  pub pc : m.state.pc ≡ 4 * at
  pub memory : m.state.memory ≡ bytes_of words
  pub small : AreSmall words
  pub ready : Ready m.state.registers
  pub bounded : AreSmall m.state.registers
  pub stack : slice_index m.state.registers 2 ≡ sp
  pub heap : slice_index m.state.registers 3 ≡ hp
  pub grown : hp ≤ sp
  pub low : sp ≤ 2 ^ 26
  pub few : n ≤ 2 ^ 24 + 2

-- the machine behind so many words of code, with the stack pointer so many words lower and all other registers but 7 as before
pub record Lowered (m : Moment) (at : ℕ) (words : List ℕ) (sp n size : ℕ) : Type 0 where
  pub registers' : List ℕ
  pub count : ℕ
  pub cheap : count ≤ 4
  pub comes : Comes count m (moment (state_at (at + size) registers' words) (later count (beside m)))
  pub stack : slice_index registers' 2 ≡ sp - 4 * n
  pub others : (q : ℕ) → (q ≡ 2 → ⊥) → (q ≡ 7 → ⊥) → slice_index registers' q ≡ slice_index m.state.registers q
  pub ready : Ready registers'
  pub bounded : AreSmall registers'

-- where there is room, the stack pointer goes down
abbrev pub LawOfRoom : Type 0
LawOfRoom =
    (m : Moment) (full_at at : ℕ) (words : List ℕ) (sp hp n : ℕ) (more : List Instr) → Asking m at words sp hp n → hp + 4 * n ≤ sp
    → HasCode words at (room_code full_at at n ++ more) → at + length (room_code full_at at n) < 2 ^ 25
    → Lowered m at words sp n (length (room_code full_at at n))

-- where a block that fits was laid, the machine of the arena with it is the one before, with the stack pointer lower
abbrev pub LawOfNewBlocks : Type 0
LawOfNewBlocks =
    (program : LineProgram) (l : Located) (known : (number line register : ℕ) → Place → Bool) (first : List Block)
    → (z : MidState) (words : List ℕ) (b : Block) (m m' : Moment) → Machine program l (Known known) first z words m → b.words ≤ left z.arena
    → m'.state.memory ≡ m.state.memory → Ready m'.state.registers → AreSmall m'.state.registers
    → slice_index m'.state.registers 2 + 4 * b.words ≡ slice_index m.state.registers 2 → slice_index m'.state.registers 3 ≡ slice_index m.state.registers 3
    → m'.printed ≡ m.printed → m'.input ≡ m.input
    → Machine program l (Known known) first (with_arena (with_new_block b z.arena) z) words m'
