-- How a word is read: its fields, and the instruction of its opcode, funct3 and funct7. That these
-- are the instructions of `Encodes`, no more and no fewer, is what `decode` ensures.
use Rattle.std.specs.Prelude.{ℕ, ◌+◌, ◌*◌, ◌^◌, ◌==◌, if◌then◌else◌, List, [], ◌∷◌, Option, Some, None}
use Rattle.rv_encode.specs.Formats.{bits}
use Rattle.rv_encode.specs.declared.instruction.Instr.{Instr}
use Rattle.rv_encode.specs.declared.instruction.Instr.TheVariants.{Lui, Auipc, Jal, Jalr, Beq, Bne, Blt, Bge, Bltu, Bgeu, Lb, Lh, Lw, Lbu, Lhu, Sb, Sh, Sw, Addi, Slti, Sltiu, Xori, Ori, Andi, Slli, Srli, Srai, Add, Sub, Sll, Slt, Sltu, Xor, Srl, Sra, Or, And, Mul, Mulh, Mulhsu, Mulhu, Div, Divu, Rem, Remu, Fence, Ecall, Ebreak}

abbrev pub opcode : ℕ → ℕ
opcode word = bits 6 0 word

abbrev pub rd : ℕ → ℕ
rd word = bits 11 7 word

abbrev pub funct3 : ℕ → ℕ
funct3 word = bits 14 12 word

abbrev pub rs1 : ℕ → ℕ
rs1 word = bits 19 15 word

abbrev pub rs2 : ℕ → ℕ
rs2 word = bits 24 20 word

abbrev pub funct7 : ℕ → ℕ
funct7 word = bits 31 25 word

abbrev pub mode : ℕ → ℕ
mode word = bits 31 28 word

abbrev pub predecessor : ℕ → ℕ
predecessor word = bits 27 24 word

abbrev pub successor : ℕ → ℕ
successor word = bits 23 20 word

abbrev pub immediate_i : ℕ → ℕ
immediate_i word = bits 31 20 word

abbrev pub immediate_s : ℕ → ℕ
immediate_s word = bits 31 25 word * 2 ^ 5 + bits 11 7 word

abbrev pub immediate_b : ℕ → ℕ
immediate_b word =
    bits 31 31 word * 2 ^ 12 + bits 7 7 word * 2 ^ 11 + bits 30 25 word * 2 ^ 5 + bits 11 8 word * 2

abbrev pub immediate_u : ℕ → ℕ
immediate_u word = bits 31 12 word

abbrev pub immediate_j : ℕ → ℕ
immediate_j word =
    bits 31 31 word * 2 ^ 20 + bits 19 12 word * 2 ^ 12 + bits 20 20 word * 2 ^ 11 + bits 30 21 word * 2

-- the instruction beside a number in a table
abbrev pub row_of : ℕ → List (ℕ × Instr) → Option Instr
row_of number [] = None
row_of number (row ∷ rows) = if number == row.0 then Some row.1 else row_of number rows

-- Tables: a number at a place of the word, and the instruction that it is.

-- opcode 1100011
unfoldable pub branch : ℕ → ℕ → ℕ → List (ℕ × Instr)
branch rs1 rs2 imm =
    ((0b000, Beq rs1 rs2 imm)
    ∷ (0b001, Bne rs1 rs2 imm)
    ∷ (0b100, Blt rs1 rs2 imm)
    ∷ (0b101, Bge rs1 rs2 imm)
    ∷ (0b110, Bltu rs1 rs2 imm)
    ∷ (0b111, Bgeu rs1 rs2 imm) ∷ [])

-- opcode 0000011
unfoldable pub load : ℕ → ℕ → ℕ → List (ℕ × Instr)
load rd rs1 imm =
    ((0b000, Lb rd rs1 imm)
    ∷ (0b001, Lh rd rs1 imm)
    ∷ (0b010, Lw rd rs1 imm)
    ∷ (0b100, Lbu rd rs1 imm)
    ∷ (0b101, Lhu rd rs1 imm) ∷ [])

-- opcode 0100011
unfoldable pub store : ℕ → ℕ → ℕ → List (ℕ × Instr)
store rs2 rs1 imm =
    ((0b000, Sb rs2 rs1 imm)
    ∷ (0b001, Sh rs2 rs1 imm)
    ∷ (0b010, Sw rs2 rs1 imm) ∷ [])

-- opcode 0010011 with funct3 101
unfoldable pub right_shift : ℕ → ℕ → ℕ → List (ℕ × Instr)
right_shift rd rs1 shift =
    ((0b0000000, Srli rd rs1 shift)
    ∷ (0b0100000, Srai rd rs1 shift) ∷ [])

-- opcode 0010011 with any other funct3 but 001
unfoldable pub immediate : ℕ → ℕ → ℕ → List (ℕ × Instr)
immediate rd rs1 imm =
    ((0b000, Addi rd rs1 imm)
    ∷ (0b010, Slti rd rs1 imm)
    ∷ (0b011, Sltiu rd rs1 imm)
    ∷ (0b100, Xori rd rs1 imm)
    ∷ (0b110, Ori rd rs1 imm)
    ∷ (0b111, Andi rd rs1 imm) ∷ [])

-- opcode 0110011 with funct7 0000000
unfoldable pub base_operation : ℕ → ℕ → ℕ → List (ℕ × Instr)
base_operation rd rs1 rs2 =
    ((0b000, Add rd rs1 rs2)
    ∷ (0b001, Sll rd rs1 rs2)
    ∷ (0b010, Slt rd rs1 rs2)
    ∷ (0b011, Sltu rd rs1 rs2)
    ∷ (0b100, Xor rd rs1 rs2)
    ∷ (0b101, Srl rd rs1 rs2)
    ∷ (0b110, Or rd rs1 rs2)
    ∷ (0b111, And rd rs1 rs2) ∷ [])

-- opcode 0110011 with funct7 0100000
unfoldable pub other_operation : ℕ → ℕ → ℕ → List (ℕ × Instr)
other_operation rd rs1 rs2 =
    ((0b000, Sub rd rs1 rs2)
    ∷ (0b101, Sra rd rs1 rs2) ∷ [])

-- opcode 0110011 with funct7 0000001
unfoldable pub multiplication : ℕ → ℕ → ℕ → List (ℕ × Instr)
multiplication rd rs1 rs2 =
    ((0b000, Mul rd rs1 rs2)
    ∷ (0b001, Mulh rd rs1 rs2)
    ∷ (0b010, Mulhsu rd rs1 rs2)
    ∷ (0b011, Mulhu rd rs1 rs2)
    ∷ (0b100, Div rd rs1 rs2)
    ∷ (0b101, Divu rd rs1 rs2)
    ∷ (0b110, Rem rd rs1 rs2)
    ∷ (0b111, Remu rd rs1 rs2) ∷ [])

-- opcode 0010011 with funct3 001
unfoldable pub left_shift : ℕ → ℕ → ℕ → List (ℕ × Instr)
left_shift rd rs1 shift = (0b0000000, Slli rd rs1 shift) ∷ []

-- opcode 0010011
unfoldable pub immediate_operation : ℕ → ℕ → ℕ → ℕ → ℕ → ℕ → Option Instr
immediate_operation funct7 funct3 rd rs1 shift imm =
    if funct3 == 0b001 then row_of funct7 (left_shift rd rs1 shift)
    else if funct3 == 0b101 then row_of funct7 (right_shift rd rs1 shift)
    else row_of funct3 (immediate rd rs1 imm)

-- opcode 0110011
unfoldable pub operation : ℕ → ℕ → ℕ → ℕ → ℕ → Option Instr
operation funct7 funct3 rd rs1 rs2 =
    if funct7 == 0b0000000 then row_of funct3 (base_operation rd rs1 rs2)
    else if funct7 == 0b0100000 then row_of funct3 (other_operation rd rs1 rs2)
    else if funct7 == 0b0000001 then row_of funct3 (multiplication rd rs1 rs2)
    else None

-- opcode 1100111
unfoldable pub jump_to_register : ℕ → ℕ → ℕ → List (ℕ × Instr)
jump_to_register rd rs1 imm = ((0b000, Jalr rd rs1 imm) ∷ [])

-- opcode 0001111
unfoldable pub fence : ℕ → ℕ → ℕ → ℕ → ℕ → List (ℕ × Instr)
fence rd rs1 mode predecessor successor =
    ((0b000, Fence rd rs1 mode predecessor successor) ∷ [])

-- opcode 1110011
unfoldable pub system : List (ℕ × Instr)
system = (0x73, Ecall) ∷ (0x100073, Ebreak) ∷ []

-- the instruction that a word is, if it is one
unfoldable pub decode_of : ℕ → Option Instr
decode_of word =
    if opcode word == 0b0110111 then Some (Lui (rd word) (immediate_u word))
    else if opcode word == 0b0010111 then Some (Auipc (rd word) (immediate_u word))
    else if opcode word == 0b1101111 then Some (Jal (rd word) (immediate_j word))
    else if opcode word == 0b1100111 then
    row_of (funct3 word) (jump_to_register (rd word) (rs1 word) (immediate_i word))
    else if opcode word == 0b1100011 then row_of (funct3 word) (branch (rs1 word) (rs2 word) (immediate_b word))
    else if opcode word == 0b0000011 then row_of (funct3 word) (load (rd word) (rs1 word) (immediate_i word))
    else if opcode word == 0b0100011 then row_of (funct3 word) (store (rs2 word) (rs1 word) (immediate_s word))
    else if opcode word == 0b0010011 then
    immediate_operation (funct7 word) (funct3 word) (rd word) (rs1 word) (rs2 word) (immediate_i word)
    else if opcode word == 0b0110011 then
    operation (funct7 word) (funct3 word) (rd word) (rs1 word) (rs2 word)
    else if opcode word == 0b0001111 then
    row_of (funct3 word) (fence (rd word) (rs1 word) (mode word) (predecessor word) (successor word))
    else if opcode word == 0b1110011 then row_of word system
    else None
