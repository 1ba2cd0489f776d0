-- Which word an instruction is (RISC-V Unprivileged ISA, 2.2 to 2.8, the M extension, and the
-- chapter "RV32/64G Instruction Set Listings", whose tables these are).
use Rattle.std.specs.Prelude.{ℕ, ◌≡◌, ◌<◌, ◌%◌, ◌^◌}
use Rattle.rv_encode.specs.Formats.{r_word, i_word, s_word, b_word, u_word, j_word, fence_word}
use Rattle.rv_encode.specs.declared.instruction.Instr.{Instr}
use Rattle.rv_encode.specs.declared.instruction.Instr.TheVariants.{Lui, Auipc, Jal, Jalr, Beq, Bne, Blt, Bge, Bltu, Bgeu, Lb, Lh, Lw, Lbu, Lhu, Sb, Sh, Sw, Addi, Slti, Sltiu, Xori, Ori, Andi, Slli, Srli, Srai, Add, Sub, Sll, Slt, Sltu, Xor, Srl, Sra, Or, And, Mul, Mulh, Mulhsu, Mulhu, Div, Divu, Rem, Remu, Fence, Ecall, Ebreak}

abbrev pub IsRegister : ℕ → Type 0
IsRegister number = number < 32

abbrev pub IsEvenBelow : ℕ → ℕ → Type 0
IsEvenBelow limit number = (number < limit) × (number % 2 ≡ 0)

-- the fields are in range; those of every value of the type are, by the types of the fields
abbrev pub IsInstr : Instr → Type 0
IsInstr (Lui rd imm) = IsRegister rd × (imm < 2 ^ 20)
IsInstr (Auipc rd imm) = IsRegister rd × (imm < 2 ^ 20)
IsInstr (Jal rd imm) = IsRegister rd × IsEvenBelow (2 ^ 21) imm
IsInstr (Jalr rd rs1 imm) = IsRegister rd × IsRegister rs1 × (imm < 2 ^ 12)
IsInstr (Beq rs1 rs2 imm) = IsRegister rs1 × IsRegister rs2 × IsEvenBelow (2 ^ 13) imm
IsInstr (Bne rs1 rs2 imm) = IsRegister rs1 × IsRegister rs2 × IsEvenBelow (2 ^ 13) imm
IsInstr (Blt rs1 rs2 imm) = IsRegister rs1 × IsRegister rs2 × IsEvenBelow (2 ^ 13) imm
IsInstr (Bge rs1 rs2 imm) = IsRegister rs1 × IsRegister rs2 × IsEvenBelow (2 ^ 13) imm
IsInstr (Bltu rs1 rs2 imm) = IsRegister rs1 × IsRegister rs2 × IsEvenBelow (2 ^ 13) imm
IsInstr (Bgeu rs1 rs2 imm) = IsRegister rs1 × IsRegister rs2 × IsEvenBelow (2 ^ 13) imm
IsInstr (Lb rd rs1 imm) = IsRegister rd × IsRegister rs1 × (imm < 2 ^ 12)
IsInstr (Lh rd rs1 imm) = IsRegister rd × IsRegister rs1 × (imm < 2 ^ 12)
IsInstr (Lw rd rs1 imm) = IsRegister rd × IsRegister rs1 × (imm < 2 ^ 12)
IsInstr (Lbu rd rs1 imm) = IsRegister rd × IsRegister rs1 × (imm < 2 ^ 12)
IsInstr (Lhu rd rs1 imm) = IsRegister rd × IsRegister rs1 × (imm < 2 ^ 12)
IsInstr (Sb rs2 rs1 imm) = IsRegister rs2 × IsRegister rs1 × (imm < 2 ^ 12)
IsInstr (Sh rs2 rs1 imm) = IsRegister rs2 × IsRegister rs1 × (imm < 2 ^ 12)
IsInstr (Sw rs2 rs1 imm) = IsRegister rs2 × IsRegister rs1 × (imm < 2 ^ 12)
IsInstr (Addi rd rs1 imm) = IsRegister rd × IsRegister rs1 × (imm < 2 ^ 12)
IsInstr (Slti rd rs1 imm) = IsRegister rd × IsRegister rs1 × (imm < 2 ^ 12)
IsInstr (Sltiu rd rs1 imm) = IsRegister rd × IsRegister rs1 × (imm < 2 ^ 12)
IsInstr (Xori rd rs1 imm) = IsRegister rd × IsRegister rs1 × (imm < 2 ^ 12)
IsInstr (Ori rd rs1 imm) = IsRegister rd × IsRegister rs1 × (imm < 2 ^ 12)
IsInstr (Andi rd rs1 imm) = IsRegister rd × IsRegister rs1 × (imm < 2 ^ 12)
IsInstr (Slli rd rs1 shift) = IsRegister rd × IsRegister rs1 × (shift < 32)
IsInstr (Srli rd rs1 shift) = IsRegister rd × IsRegister rs1 × (shift < 32)
IsInstr (Srai rd rs1 shift) = IsRegister rd × IsRegister rs1 × (shift < 32)
IsInstr (Add rd rs1 rs2) = IsRegister rd × IsRegister rs1 × IsRegister rs2
IsInstr (Sub rd rs1 rs2) = IsRegister rd × IsRegister rs1 × IsRegister rs2
IsInstr (Sll rd rs1 rs2) = IsRegister rd × IsRegister rs1 × IsRegister rs2
IsInstr (Slt rd rs1 rs2) = IsRegister rd × IsRegister rs1 × IsRegister rs2
IsInstr (Sltu rd rs1 rs2) = IsRegister rd × IsRegister rs1 × IsRegister rs2
IsInstr (Xor rd rs1 rs2) = IsRegister rd × IsRegister rs1 × IsRegister rs2
IsInstr (Srl rd rs1 rs2) = IsRegister rd × IsRegister rs1 × IsRegister rs2
IsInstr (Sra rd rs1 rs2) = IsRegister rd × IsRegister rs1 × IsRegister rs2
IsInstr (Or rd rs1 rs2) = IsRegister rd × IsRegister rs1 × IsRegister rs2
IsInstr (And rd rs1 rs2) = IsRegister rd × IsRegister rs1 × IsRegister rs2
IsInstr (Mul rd rs1 rs2) = IsRegister rd × IsRegister rs1 × IsRegister rs2
IsInstr (Mulh rd rs1 rs2) = IsRegister rd × IsRegister rs1 × IsRegister rs2
IsInstr (Mulhsu rd rs1 rs2) = IsRegister rd × IsRegister rs1 × IsRegister rs2
IsInstr (Mulhu rd rs1 rs2) = IsRegister rd × IsRegister rs1 × IsRegister rs2
IsInstr (Div rd rs1 rs2) = IsRegister rd × IsRegister rs1 × IsRegister rs2
IsInstr (Divu rd rs1 rs2) = IsRegister rd × IsRegister rs1 × IsRegister rs2
IsInstr (Rem rd rs1 rs2) = IsRegister rd × IsRegister rs1 × IsRegister rs2
IsInstr (Remu rd rs1 rs2) = IsRegister rd × IsRegister rs1 × IsRegister rs2
IsInstr (Fence rd rs1 mode predecessor successor) =
    IsRegister rd × IsRegister rs1 × (mode < 16) × (predecessor < 16) × (successor < 16)
IsInstr Ecall = Unit {0}
IsInstr Ebreak = Unit {0}

-- the fields of the instruction at their places
abbrev pub word_of : Instr → ℕ
word_of (Lui rd imm) = u_word imm rd 0b0110111
word_of (Auipc rd imm) = u_word imm rd 0b0010111
word_of (Jal rd imm) = j_word imm rd 0b1101111
word_of (Jalr rd rs1 imm) = i_word imm rs1 0b000 rd 0b1100111
word_of (Beq rs1 rs2 imm) = b_word imm rs2 rs1 0b000 0b1100011
word_of (Bne rs1 rs2 imm) = b_word imm rs2 rs1 0b001 0b1100011
word_of (Blt rs1 rs2 imm) = b_word imm rs2 rs1 0b100 0b1100011
word_of (Bge rs1 rs2 imm) = b_word imm rs2 rs1 0b101 0b1100011
word_of (Bltu rs1 rs2 imm) = b_word imm rs2 rs1 0b110 0b1100011
word_of (Bgeu rs1 rs2 imm) = b_word imm rs2 rs1 0b111 0b1100011
word_of (Lb rd rs1 imm) = i_word imm rs1 0b000 rd 0b0000011
word_of (Lh rd rs1 imm) = i_word imm rs1 0b001 rd 0b0000011
word_of (Lw rd rs1 imm) = i_word imm rs1 0b010 rd 0b0000011
word_of (Lbu rd rs1 imm) = i_word imm rs1 0b100 rd 0b0000011
word_of (Lhu rd rs1 imm) = i_word imm rs1 0b101 rd 0b0000011
word_of (Sb rs2 rs1 imm) = s_word imm rs2 rs1 0b000 0b0100011
word_of (Sh rs2 rs1 imm) = s_word imm rs2 rs1 0b001 0b0100011
word_of (Sw rs2 rs1 imm) = s_word imm rs2 rs1 0b010 0b0100011
word_of (Addi rd rs1 imm) = i_word imm rs1 0b000 rd 0b0010011
word_of (Slti rd rs1 imm) = i_word imm rs1 0b010 rd 0b0010011
word_of (Sltiu rd rs1 imm) = i_word imm rs1 0b011 rd 0b0010011
word_of (Xori rd rs1 imm) = i_word imm rs1 0b100 rd 0b0010011
word_of (Ori rd rs1 imm) = i_word imm rs1 0b110 rd 0b0010011
word_of (Andi rd rs1 imm) = i_word imm rs1 0b111 rd 0b0010011
word_of (Slli rd rs1 shift) = r_word 0b0000000 shift rs1 0b001 rd 0b0010011
word_of (Srli rd rs1 shift) = r_word 0b0000000 shift rs1 0b101 rd 0b0010011
word_of (Srai rd rs1 shift) = r_word 0b0100000 shift rs1 0b101 rd 0b0010011
word_of (Add rd rs1 rs2) = r_word 0b0000000 rs2 rs1 0b000 rd 0b0110011
word_of (Sub rd rs1 rs2) = r_word 0b0100000 rs2 rs1 0b000 rd 0b0110011
word_of (Sll rd rs1 rs2) = r_word 0b0000000 rs2 rs1 0b001 rd 0b0110011
word_of (Slt rd rs1 rs2) = r_word 0b0000000 rs2 rs1 0b010 rd 0b0110011
word_of (Sltu rd rs1 rs2) = r_word 0b0000000 rs2 rs1 0b011 rd 0b0110011
word_of (Xor rd rs1 rs2) = r_word 0b0000000 rs2 rs1 0b100 rd 0b0110011
word_of (Srl rd rs1 rs2) = r_word 0b0000000 rs2 rs1 0b101 rd 0b0110011
word_of (Sra rd rs1 rs2) = r_word 0b0100000 rs2 rs1 0b101 rd 0b0110011
word_of (Or rd rs1 rs2) = r_word 0b0000000 rs2 rs1 0b110 rd 0b0110011
word_of (And rd rs1 rs2) = r_word 0b0000000 rs2 rs1 0b111 rd 0b0110011
word_of (Mul rd rs1 rs2) = r_word 0b0000001 rs2 rs1 0b000 rd 0b0110011
word_of (Mulh rd rs1 rs2) = r_word 0b0000001 rs2 rs1 0b001 rd 0b0110011
word_of (Mulhsu rd rs1 rs2) = r_word 0b0000001 rs2 rs1 0b010 rd 0b0110011
word_of (Mulhu rd rs1 rs2) = r_word 0b0000001 rs2 rs1 0b011 rd 0b0110011
word_of (Div rd rs1 rs2) = r_word 0b0000001 rs2 rs1 0b100 rd 0b0110011
word_of (Divu rd rs1 rs2) = r_word 0b0000001 rs2 rs1 0b101 rd 0b0110011
word_of (Rem rd rs1 rs2) = r_word 0b0000001 rs2 rs1 0b110 rd 0b0110011
word_of (Remu rd rs1 rs2) = r_word 0b0000001 rs2 rs1 0b111 rd 0b0110011
word_of (Fence rd rs1 mode predecessor successor) =
    fence_word mode predecessor successor rs1 0b000 rd 0b0001111
word_of Ecall = 0x73
word_of Ebreak = 0x100073

-- the instruction, with its fields in range, is this word
abbrev pub Encodes : Instr → ℕ → Type 0
Encodes i word = IsInstr i × (word ≡ word_of i)
