-- What the machine holds (RISC-V Unprivileged ISA, 1.2 and 2.1): the address of the next instruction,
-- 32 registers of 32 bits of which number 0 is always 0, and the memory.
use Rattle.std.specs.Prelude.{ℕ, ◌-◌, ◌*◌, ◌/◌, List, ◌++◌, length, replicate, if◌then◌else◌, ◌==◌, slice_index, slice_set}
use Rattle.rv_machine.specs.Memory.{bytes_of}

pub record State : Type 0 where
  pub pc : ℕ
  pub registers : List ℕ
  pub memory : List ℕ

-- how many words the memory has
abbrev pub arena_words : State → ℕ
arena_words s = length s.memory / 4

-- a machine: its state, and how many instructions were executed since the image was loaded
pub record Counted : Type 0 where
  pub state : State
  pub count : ℕ

-- the value of a register
abbrev pub register : State → ℕ → ℕ
register s r = slice_index s.registers r

-- a register written; register 0 stays 0
abbrev pub put : ℕ → ℕ → State → State
put rd value s = record s { registers = if rd == 0 then s.registers else slice_set s.registers rd value }

-- the image's words from address 0 in an arena of so many words, all other words 0
abbrev pub laid : List ℕ → ℕ → List ℕ
laid words arena = words ++ replicate (arena - length words) 0

-- the start: x2 is four times the arena's words, x3 four times the image's words, other registers 0
abbrev pub start_registers : ℕ → ℕ → List ℕ
start_registers words arena = slice_set (slice_set (replicate 32 0) 2 (4 * arena)) 3 (4 * words)

abbrev pub start : List ℕ → ℕ → ℕ → State
start words entry arena = record {
  pc = entry;
  registers = start_registers (length words) arena;
  memory = bytes_of (laid words arena);
}
