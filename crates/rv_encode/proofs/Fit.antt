-- The word of an instruction is a number of 32 bits.
use Rattle.std.proofs.Common.{ℕ, ◌<◌, ◌^◌, lit<, arith}
use Rattle.rv_encode.specs.Formats.{r_word, i_word, s_word, b_word, u_word, j_word, fence_word}
use Rattle.rv_encode.specs.Encodes.{IsInstr, IsRegister, IsEvenBelow, word_of}
use Rattle.rv_encode.specs.declared.instruction.Instr.{Instr}
use Rattle.rv_encode.specs.declared.instruction.Instr.TheVariants.{Lui, Auipc, Jal, Jalr, Beq, Bne, Blt, Bge, Bltu, Bgeu, Lb, Lh, Lw, Lbu, Lhu, Sb, Sh, Sw, Addi, Slti, Sltiu, Xori, Ori, Andi, Slli, Srli, Srai, Add, Sub, Sll, Slt, Sltu, Xor, Srl, Sra, Or, And, Mul, Mulh, Mulhsu, Mulhu, Div, Divu, Rem, Remu, Fence, Ecall, Ebreak}

r_word-fits :
    (f7 r2 r1 f3 r op : ℕ) → f7 < 128 → IsRegister r × IsRegister r1 × IsRegister r2 → f3 < 8
    → op < 128 → r_word f7 r2 r1 f3 r op < 2 ^ 32
r_word-fits f7 r2 r1 f3 r op h7 h h3 ho = omega arith

i_word-fits :
    (imm r1 f3 r op : ℕ) → IsRegister r × IsRegister r1 × (imm < 4096) → f3 < 8 → op < 128
    → i_word imm r1 f3 r op < 2 ^ 32
i_word-fits imm r1 f3 r op h h3 ho = omega arith

s_word-fits :
    (imm r2 r1 f3 op : ℕ) → IsRegister r2 × IsRegister r1 × (imm < 4096) → f3 < 8 → op < 128
    → s_word imm r2 r1 f3 op < 2 ^ 32
s_word-fits imm r2 r1 f3 op h h3 ho = omega arith

b_word-fits :
    (imm r2 r1 f3 op : ℕ) → IsRegister r1 × IsRegister r2 × IsEvenBelow 8192 imm → f3 < 8 → op < 128
    → b_word imm r2 r1 f3 op < 2 ^ 32
b_word-fits imm r2 r1 f3 op h h3 ho = omega arith

u_word-fits :
    (imm r op : ℕ) → IsRegister r × (imm < 1048576) → op < 128 → u_word imm r op < 2 ^ 32
u_word-fits imm r op h ho = omega arith

j_word-fits :
    (imm r op : ℕ) → IsRegister r × IsEvenBelow 2097152 imm → op < 128 → j_word imm r op < 2 ^ 32
j_word-fits imm r op h ho = omega arith

fence_word-fits :
    (m p s r1 f3 r op : ℕ) → IsRegister r × IsRegister r1 × (m < 16) × (p < 16) × (s < 16) → f3 < 8
    → op < 128 → fence_word m p s r1 f3 r op < 2 ^ 32
fence_word-fits m p s r1 f3 r op h h3 ho = omega arith

pub word_of-fits : (i : Instr) → IsInstr i → word_of i < 2 ^ 32
word_of-fits (Lui rd imm) h = u_word-fits imm rd 0b0110111 h (lit< tt)
word_of-fits (Auipc rd imm) h = u_word-fits imm rd 0b0010111 h (lit< tt)
word_of-fits (Jal rd imm) h = j_word-fits imm rd 0b1101111 h (lit< tt)
word_of-fits (Jalr rd rs1 imm) h = i_word-fits imm rs1 0b000 rd 0b1100111 h (lit< tt) (lit< tt)
word_of-fits (Beq rs1 rs2 imm) h = b_word-fits imm rs2 rs1 0b000 0b1100011 h (lit< tt) (lit< tt)
word_of-fits (Bne rs1 rs2 imm) h = b_word-fits imm rs2 rs1 0b001 0b1100011 h (lit< tt) (lit< tt)
word_of-fits (Blt rs1 rs2 imm) h = b_word-fits imm rs2 rs1 0b100 0b1100011 h (lit< tt) (lit< tt)
word_of-fits (Bge rs1 rs2 imm) h = b_word-fits imm rs2 rs1 0b101 0b1100011 h (lit< tt) (lit< tt)
word_of-fits (Bltu rs1 rs2 imm) h = b_word-fits imm rs2 rs1 0b110 0b1100011 h (lit< tt) (lit< tt)
word_of-fits (Bgeu rs1 rs2 imm) h = b_word-fits imm rs2 rs1 0b111 0b1100011 h (lit< tt) (lit< tt)
word_of-fits (Lb rd rs1 imm) h = i_word-fits imm rs1 0b000 rd 0b0000011 h (lit< tt) (lit< tt)
word_of-fits (Lh rd rs1 imm) h = i_word-fits imm rs1 0b001 rd 0b0000011 h (lit< tt) (lit< tt)
word_of-fits (Lw rd rs1 imm) h = i_word-fits imm rs1 0b010 rd 0b0000011 h (lit< tt) (lit< tt)
word_of-fits (Lbu rd rs1 imm) h = i_word-fits imm rs1 0b100 rd 0b0000011 h (lit< tt) (lit< tt)
word_of-fits (Lhu rd rs1 imm) h = i_word-fits imm rs1 0b101 rd 0b0000011 h (lit< tt) (lit< tt)
word_of-fits (Sb rs2 rs1 imm) h = s_word-fits imm rs2 rs1 0b000 0b0100011 h (lit< tt) (lit< tt)
word_of-fits (Sh rs2 rs1 imm) h = s_word-fits imm rs2 rs1 0b001 0b0100011 h (lit< tt) (lit< tt)
word_of-fits (Sw rs2 rs1 imm) h = s_word-fits imm rs2 rs1 0b010 0b0100011 h (lit< tt) (lit< tt)
word_of-fits (Addi rd rs1 imm) h = i_word-fits imm rs1 0b000 rd 0b0010011 h (lit< tt) (lit< tt)
word_of-fits (Slti rd rs1 imm) h = i_word-fits imm rs1 0b010 rd 0b0010011 h (lit< tt) (lit< tt)
word_of-fits (Sltiu rd rs1 imm) h = i_word-fits imm rs1 0b011 rd 0b0010011 h (lit< tt) (lit< tt)
word_of-fits (Xori rd rs1 imm) h = i_word-fits imm rs1 0b100 rd 0b0010011 h (lit< tt) (lit< tt)
word_of-fits (Ori rd rs1 imm) h = i_word-fits imm rs1 0b110 rd 0b0010011 h (lit< tt) (lit< tt)
word_of-fits (Andi rd rs1 imm) h = i_word-fits imm rs1 0b111 rd 0b0010011 h (lit< tt) (lit< tt)
word_of-fits (Slli rd rs1 shift) h =
    r_word-fits 0b0000000 shift rs1 0b001 rd 0b0010011 (lit< tt) h (lit< tt) (lit< tt)
word_of-fits (Srli rd rs1 shift) h =
    r_word-fits 0b0000000 shift rs1 0b101 rd 0b0010011 (lit< tt) h (lit< tt) (lit< tt)
word_of-fits (Srai rd rs1 shift) h =
    r_word-fits 0b0100000 shift rs1 0b101 rd 0b0010011 (lit< tt) h (lit< tt) (lit< tt)
word_of-fits (Add rd rs1 rs2) h =
    r_word-fits 0b0000000 rs2 rs1 0b000 rd 0b0110011 (lit< tt) h (lit< tt) (lit< tt)
word_of-fits (Sub rd rs1 rs2) h =
    r_word-fits 0b0100000 rs2 rs1 0b000 rd 0b0110011 (lit< tt) h (lit< tt) (lit< tt)
word_of-fits (Sll rd rs1 rs2) h =
    r_word-fits 0b0000000 rs2 rs1 0b001 rd 0b0110011 (lit< tt) h (lit< tt) (lit< tt)
word_of-fits (Slt rd rs1 rs2) h =
    r_word-fits 0b0000000 rs2 rs1 0b010 rd 0b0110011 (lit< tt) h (lit< tt) (lit< tt)
word_of-fits (Sltu rd rs1 rs2) h =
    r_word-fits 0b0000000 rs2 rs1 0b011 rd 0b0110011 (lit< tt) h (lit< tt) (lit< tt)
word_of-fits (Xor rd rs1 rs2) h =
    r_word-fits 0b0000000 rs2 rs1 0b100 rd 0b0110011 (lit< tt) h (lit< tt) (lit< tt)
word_of-fits (Srl rd rs1 rs2) h =
    r_word-fits 0b0000000 rs2 rs1 0b101 rd 0b0110011 (lit< tt) h (lit< tt) (lit< tt)
word_of-fits (Sra rd rs1 rs2) h =
    r_word-fits 0b0100000 rs2 rs1 0b101 rd 0b0110011 (lit< tt) h (lit< tt) (lit< tt)
word_of-fits (Or rd rs1 rs2) h =
    r_word-fits 0b0000000 rs2 rs1 0b110 rd 0b0110011 (lit< tt) h (lit< tt) (lit< tt)
word_of-fits (And rd rs1 rs2) h =
    r_word-fits 0b0000000 rs2 rs1 0b111 rd 0b0110011 (lit< tt) h (lit< tt) (lit< tt)
word_of-fits (Mul rd rs1 rs2) h =
    r_word-fits 0b0000001 rs2 rs1 0b000 rd 0b0110011 (lit< tt) h (lit< tt) (lit< tt)
word_of-fits (Mulh rd rs1 rs2) h =
    r_word-fits 0b0000001 rs2 rs1 0b001 rd 0b0110011 (lit< tt) h (lit< tt) (lit< tt)
word_of-fits (Mulhsu rd rs1 rs2) h =
    r_word-fits 0b0000001 rs2 rs1 0b010 rd 0b0110011 (lit< tt) h (lit< tt) (lit< tt)
word_of-fits (Mulhu rd rs1 rs2) h =
    r_word-fits 0b0000001 rs2 rs1 0b011 rd 0b0110011 (lit< tt) h (lit< tt) (lit< tt)
word_of-fits (Div rd rs1 rs2) h =
    r_word-fits 0b0000001 rs2 rs1 0b100 rd 0b0110011 (lit< tt) h (lit< tt) (lit< tt)
word_of-fits (Divu rd rs1 rs2) h =
    r_word-fits 0b0000001 rs2 rs1 0b101 rd 0b0110011 (lit< tt) h (lit< tt) (lit< tt)
word_of-fits (Rem rd rs1 rs2) h =
    r_word-fits 0b0000001 rs2 rs1 0b110 rd 0b0110011 (lit< tt) h (lit< tt) (lit< tt)
word_of-fits (Remu rd rs1 rs2) h =
    r_word-fits 0b0000001 rs2 rs1 0b111 rd 0b0110011 (lit< tt) h (lit< tt) (lit< tt)
word_of-fits (Fence rd rs1 mode predecessor successor) h =
    fence_word-fits mode predecessor successor rs1 0b000 rd 0b0001111 h (lit< tt) (lit< tt)
word_of-fits Ecall h = lit< tt
word_of-fits Ebreak h = lit< tt
