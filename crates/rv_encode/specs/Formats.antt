-- The formats of a word (RISC-V Unprivileged ISA, 2.2 and 2.3): the sum of its fields at their
-- places.
use Rattle.std.specs.Prelude.{ℕ, ◌+◌, ◌-◌, ◌*◌, ◌/◌, ◌%◌, ◌^◌}

-- n[high:low]
abbrev pub bits : ℕ → ℕ → ℕ → ℕ
bits high low n = n / 2 ^ low % 2 ^ (high + 1 - low)

-- R: funct7 rs2 rs1 funct3 rd opcode
abbrev pub r_word : ℕ → ℕ → ℕ → ℕ → ℕ → ℕ → ℕ
r_word funct7 rs2 rs1 funct3 rd opcode =
    funct7 * 2 ^ 25 + rs2 * 2 ^ 20 + rs1 * 2 ^ 15 + funct3 * 2 ^ 12 + rd * 2 ^ 7 + opcode

-- I: imm[11:0] rs1 funct3 rd opcode
abbrev pub i_word : ℕ → ℕ → ℕ → ℕ → ℕ → ℕ
i_word imm rs1 funct3 rd opcode = imm * 2 ^ 20 + rs1 * 2 ^ 15 + funct3 * 2 ^ 12 + rd * 2 ^ 7 + opcode

-- S: imm[11:5] rs2 rs1 funct3 imm[4:0] opcode
abbrev pub s_word : ℕ → ℕ → ℕ → ℕ → ℕ → ℕ
s_word imm rs2 rs1 funct3 opcode =
    bits 11 5 imm * 2 ^ 25 + rs2 * 2 ^ 20 + rs1 * 2 ^ 15 + funct3 * 2 ^ 12 + bits 4 0 imm * 2 ^ 7 + opcode

-- B: imm[12] imm[10:5] rs2 rs1 funct3 imm[4:1] imm[11] opcode
abbrev pub b_word : ℕ → ℕ → ℕ → ℕ → ℕ → ℕ
b_word imm rs2 rs1 funct3 opcode =
    bits 12 12 imm * 2 ^ 31 + bits 10 5 imm * 2 ^ 25 + rs2 * 2 ^ 20 + rs1 * 2 ^ 15 + funct3 * 2 ^ 12
    + bits 4 1 imm * 2 ^ 8 + bits 11 11 imm * 2 ^ 7 + opcode

-- U: imm[31:12] rd opcode, where the immediate is its upper twenty bits
abbrev pub u_word : ℕ → ℕ → ℕ → ℕ
u_word upper rd opcode = upper * 2 ^ 12 + rd * 2 ^ 7 + opcode

-- J: imm[20] imm[10:1] imm[11] imm[19:12] rd opcode
abbrev pub j_word : ℕ → ℕ → ℕ → ℕ
j_word imm rd opcode =
    bits 20 20 imm * 2 ^ 31 + bits 10 1 imm * 2 ^ 21 + bits 11 11 imm * 2 ^ 20 + bits 19 12 imm * 2 ^ 12
    + rd * 2 ^ 7 + opcode

-- FENCE: fm pred succ rs1 funct3 rd opcode
abbrev pub fence_word : ℕ → ℕ → ℕ → ℕ → ℕ → ℕ → ℕ → ℕ
fence_word mode predecessor successor rs1 funct3 rd opcode =
    mode * 2 ^ 28 + predecessor * 2 ^ 24 + successor * 2 ^ 20 + rs1 * 2 ^ 15 + funct3 * 2 ^ 12 + rd * 2 ^ 7
    + opcode
