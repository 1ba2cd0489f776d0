-- Blocks of the stack: the stack pointer goes down where there is room, and up again; and the end for want of words.
use Rattle.std.specs.Prelude.{ℕ, ◌+◌, ◌-◌, ◌*◌, ◌^◌, ◌==◌, List, [], ◌∷◌, ◌++◌, length, if◌then◌else◌}
use Rattle.rv_encode.specs.declared.instruction.Instr.{Instr}
use Rattle.rv_encode.specs.declared.instruction.Instr.TheVariants.{Lui, Bge, Addi, Add, Sub, Slli, Srli, Ecall}
use Rattle.back_places.specs.Operands.{high_part, low_part, is_short, constant_code}
use Rattle.back_places.specs.Selection.{far_jump_code}

-- a word is added to the stack pointer, which is register 2
abbrev pub stack_code : (word : ℕ) → List Instr
stack_code word =
    if is_short word then Addi 2 2 (low_part word) ∷ []
    else constant_code 7 word ++ Add 2 2 7 ∷ []

-- a block of so many words is given back
abbrev pub raise_code : (words : ℕ) → List Instr
raise_code words = if words == 0 then [] else stack_code (4 * words)

-- The jump to the end for want of so many words, which come into register 10; where there is room, it is branched over. Register 3 is
-- where the heap ends.
abbrev pub room_test_code : (full_at at words : ℕ) → List Instr
room_test_code full_at at words = Bge 2 3 20 ∷ Lui 10 (high_part words) ∷ Addi 10 10 (low_part words) ∷ far_jump_code 0 (at + 3) full_at

-- a block of so many words is laid, at a position of the code
abbrev pub room_code : (full_at at words : ℕ) → List Instr
room_code full_at at words =
    if words == 0 then []
    else stack_code (2 ^ 32 - 4 * words) ++ room_test_code full_at (at + length (stack_code (2 ^ 32 - 4 * words))) words

-- behind a jump to the end for want of words: register 10 words were asked for, and the stack pointer is so much too low
abbrev pub full_code : List Instr
full_code = Slli 5 10 2 ∷ Add 2 2 5 ∷ Sub 11 2 3 ∷ Srli 11 11 2 ∷ Addi 17 0 4 ∷ Ecall ∷ []

-- the same with the stack pointer where it is
abbrev pub full_here_code : List Instr
full_here_code = Sub 11 2 3 ∷ Srli 11 11 2 ∷ Addi 17 0 4 ∷ Ecall ∷ []

-- behind the first procedure: its word ends the run
abbrev pub end_code : List Instr
end_code = Addi 10 12 0 ∷ Addi 17 0 0 ∷ Ecall ∷ []
