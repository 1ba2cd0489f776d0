-- The word of an instruction is read as that instruction.
use Rattle.std.proofs.Common.{ℕ, ◌≡◌, ◌<◌, lit<, refl, Some}
use Rattle.rv_encode.specs.Formats.{r_word, i_word, s_word, b_word, u_word, j_word, fence_word}
use Rattle.rv_encode.specs.Encodes.{IsInstr, IsRegister, IsEvenBelow, word_of}
use Rattle.rv_encode.specs.Decode.{rd, rs1, rs2, funct7, mode, predecessor, successor, immediate_i, row_of, branch, load, store, left_shift, right_shift, immediate, base_operation, other_operation, multiplication, immediate_operation, operation, jump_to_register, fence, system, decode_of}
use Rattle.rv_encode.proofs.Places.{r_word-has, i_word-has, s_word-has, b_word-has, u_word-has, j_word-has, fence_word-has, i_imm, s_imm, b_imm, u_imm, j_imm, fence_sets}
use Rattle.rv_encode.specs.declared.instruction.Instr.{Instr}
use Rattle.rv_encode.specs.declared.instruction.Instr.TheVariants.{Lui, Auipc, Jal, Jalr, Beq, Bne, Blt, Bge, Bltu, Bgeu, Lb, Lh, Lw, Lbu, Lhu, Sb, Sh, Sw, Addi, Slti, Sltiu, Xori, Ori, Andi, Slli, Srli, Srai, Add, Sub, Sll, Slt, Sltu, Xor, Srl, Sra, Or, And, Mul, Mulh, Mulhsu, Mulhu, Div, Divu, Rem, Remu, Fence, Ecall, Ebreak}

operation-read :
    (f7 f3 r r1 r2 : ℕ) → f7 < 128 → f3 < 8 → IsRegister r × IsRegister r1 × IsRegister r2
    → decode_of (r_word f7 r2 r1 f3 r 0b0110011) ≡ operation f7 f3 r r1 r2
unfolding decode_of
operation-read f7 f3 r r1 r2 h7 h3 h =
    let f = r_word-has f7 r2 r1 f3 r 0b0110011 h7 h.2 h.1 h3 h.0 (lit< tt) in
    rw (f.is_opcode, f.is_rd, f.is_funct3, f.is_rs1, f.is_rs2, f.is_funct7)

shift-read :
    (f7 f3 r r1 sh : ℕ) → f7 < 128 → f3 < 8 → IsRegister r × IsRegister r1 × (sh < 32)
    → decode_of (r_word f7 sh r1 f3 r 0b0010011) ≡ immediate_operation f7 f3 r r1 sh (immediate_i (r_word f7 sh r1 f3 r 0b0010011))
unfolding decode_of
shift-read f7 f3 r r1 sh h7 h3 h =
    let f = r_word-has f7 sh r1 f3 r 0b0010011 h7 h.2 h.1 h3 h.0 (lit< tt) in
    rw (f.is_opcode, f.is_rd, f.is_funct3, f.is_rs1, f.is_rs2, f.is_funct7)

immediate-read :
    (f3 r r1 imm : ℕ) → f3 < 8 → IsRegister r × IsRegister r1 × (imm < 4096)
    → decode_of (i_word imm r1 f3 r 0b0010011) ≡ immediate_operation (funct7 (i_word imm r1 f3 r 0b0010011)) f3 r r1 (rs2 (i_word imm r1 f3 r 0b0010011)) imm
unfolding decode_of
immediate-read f3 r r1 imm h3 h =
    let f = i_word-has imm r1 f3 r 0b0010011 h.2 h.1 h3 h.0 (lit< tt) in
    rw (f.is_opcode, f.is_rd, f.is_funct3, f.is_rs1, i_imm _ imm r1 f3 r 0b0010011 h.2 f)

jalr-read :
    (f3 r r1 imm : ℕ) → f3 < 8 → IsRegister r × IsRegister r1 × (imm < 4096)
    → decode_of (i_word imm r1 f3 r 0b1100111) ≡ row_of f3 (jump_to_register r r1 imm)
unfolding decode_of
jalr-read f3 r r1 imm h3 h =
    let f = i_word-has imm r1 f3 r 0b1100111 h.2 h.1 h3 h.0 (lit< tt) in
    rw (f.is_opcode, f.is_rd, f.is_funct3, f.is_rs1, i_imm _ imm r1 f3 r 0b1100111 h.2 f)

load-read :
    (f3 r r1 imm : ℕ) → f3 < 8 → IsRegister r × IsRegister r1 × (imm < 4096)
    → decode_of (i_word imm r1 f3 r 0b0000011) ≡ row_of f3 (load r r1 imm)
unfolding decode_of
load-read f3 r r1 imm h3 h =
    let f = i_word-has imm r1 f3 r 0b0000011 h.2 h.1 h3 h.0 (lit< tt) in
    rw (f.is_opcode, f.is_rd, f.is_funct3, f.is_rs1, i_imm _ imm r1 f3 r 0b0000011 h.2 f)

store-read :
    (f3 r2 r1 imm : ℕ) → f3 < 8 → IsRegister r2 × IsRegister r1 × (imm < 4096)
    → decode_of (s_word imm r2 r1 f3 0b0100011) ≡ row_of f3 (store r2 r1 imm)
unfolding decode_of
store-read f3 r2 r1 imm h3 h =
    let f = s_word-has imm r2 r1 f3 0b0100011 h.2 h.0 h.1 h3 (lit< tt) in
    rw (f.is_opcode, f.is_funct3, f.is_rs1, f.is_rs2, s_imm _ imm r2 r1 f3 0b0100011 h.2 f)

branch-read :
    (f3 r1 r2 imm : ℕ) → f3 < 8 → IsRegister r1 × IsRegister r2 × IsEvenBelow 8192 imm
    → decode_of (b_word imm r2 r1 f3 0b1100011) ≡ row_of f3 (branch r1 r2 imm)
unfolding decode_of
branch-read f3 r1 r2 imm h3 h =
    let f = b_word-has imm r2 r1 f3 0b1100011 h.1 h.0 h3 (lit< tt) in
    rw (f.is_opcode, f.is_funct3, f.is_rs1, f.is_rs2, b_imm _ imm r2 r1 f3 0b1100011 h.2 f)

lui-read :
    (r imm : ℕ) → IsRegister r × (imm < 1048576)
    → decode_of (u_word imm r 0b0110111) ≡ Some (Lui r imm)
unfolding decode_of
lui-read r imm h =
    let f = u_word-has imm r 0b0110111 h.1 h.0 (lit< tt) in
    rw (f.is_opcode, f.is_rd, u_imm _ imm r 0b0110111 h.1 f)

auipc-read :
    (r imm : ℕ) → IsRegister r × (imm < 1048576)
    → decode_of (u_word imm r 0b0010111) ≡ Some (Auipc r imm)
unfolding decode_of
auipc-read r imm h =
    let f = u_word-has imm r 0b0010111 h.1 h.0 (lit< tt) in
    rw (f.is_opcode, f.is_rd, u_imm _ imm r 0b0010111 h.1 f)

jal-read :
    (r imm : ℕ) → IsRegister r × IsEvenBelow 2097152 imm
    → decode_of (j_word imm r 0b1101111) ≡ Some (Jal r imm)
unfolding decode_of
jal-read r imm h =
    let f = j_word-has imm r 0b1101111 h.0 (lit< tt) in
    rw (f.is_opcode, f.is_rd, j_imm _ imm r 0b1101111 h.1 f)

fence-read :
    (f3 r r1 m p s : ℕ) → f3 < 8 → IsRegister r × IsRegister r1 × (m < 16) × (p < 16) × (s < 16)
    → decode_of (fence_word m p s r1 f3 r 0b0001111) ≡ row_of f3 (fence r r1 m p s)
unfolding decode_of
fence-read f3 r r1 m p s h3 h =
    let f = fence_word-has m p s r1 f3 r 0b0001111 h.2 h.3 h.4 h.1 h3 h.0 (lit< tt) in
    let g = fence_sets _ m p s r1 f3 r 0b0001111 h.2 h.3 h.4 f in
    rw (f.is_opcode, f.is_rd, f.is_funct3, f.is_rs1, g.is_successor, g.is_predecessor, g.is_mode)

pub word_of-read : (i : Instr) → IsInstr i → decode_of (word_of i) ≡ Some i
unfolding branch load store left_shift right_shift immediate base_operation other_operation multiplication immediate_operation operation jump_to_register fence system decode_of
word_of-read (Lui rd imm) h = lui-read rd imm h
word_of-read (Auipc rd imm) h = auipc-read rd imm h
word_of-read (Jal rd imm) h = jal-read rd imm h
word_of-read (Jalr rd rs1 imm) h = jalr-read 0b000 rd rs1 imm (lit< tt) h
word_of-read (Beq rs1 rs2 imm) h = branch-read 0b000 rs1 rs2 imm (lit< tt) h
word_of-read (Bne rs1 rs2 imm) h = branch-read 0b001 rs1 rs2 imm (lit< tt) h
word_of-read (Blt rs1 rs2 imm) h = branch-read 0b100 rs1 rs2 imm (lit< tt) h
word_of-read (Bge rs1 rs2 imm) h = branch-read 0b101 rs1 rs2 imm (lit< tt) h
word_of-read (Bltu rs1 rs2 imm) h = branch-read 0b110 rs1 rs2 imm (lit< tt) h
word_of-read (Bgeu rs1 rs2 imm) h = branch-read 0b111 rs1 rs2 imm (lit< tt) h
word_of-read (Lb rd rs1 imm) h = load-read 0b000 rd rs1 imm (lit< tt) h
word_of-read (Lh rd rs1 imm) h = load-read 0b001 rd rs1 imm (lit< tt) h
word_of-read (Lw rd rs1 imm) h = load-read 0b010 rd rs1 imm (lit< tt) h
word_of-read (Lbu rd rs1 imm) h = load-read 0b100 rd rs1 imm (lit< tt) h
word_of-read (Lhu rd rs1 imm) h = load-read 0b101 rd rs1 imm (lit< tt) h
word_of-read (Sb rs2 rs1 imm) h = store-read 0b000 rs2 rs1 imm (lit< tt) h
word_of-read (Sh rs2 rs1 imm) h = store-read 0b001 rs2 rs1 imm (lit< tt) h
word_of-read (Sw rs2 rs1 imm) h = store-read 0b010 rs2 rs1 imm (lit< tt) h
word_of-read (Addi rd rs1 imm) h = immediate-read 0b000 rd rs1 imm (lit< tt) h
word_of-read (Slti rd rs1 imm) h = immediate-read 0b010 rd rs1 imm (lit< tt) h
word_of-read (Sltiu rd rs1 imm) h = immediate-read 0b011 rd rs1 imm (lit< tt) h
word_of-read (Xori rd rs1 imm) h = immediate-read 0b100 rd rs1 imm (lit< tt) h
word_of-read (Ori rd rs1 imm) h = immediate-read 0b110 rd rs1 imm (lit< tt) h
word_of-read (Andi rd rs1 imm) h = immediate-read 0b111 rd rs1 imm (lit< tt) h
word_of-read (Slli rd rs1 shift) h = shift-read 0b0000000 0b001 rd rs1 shift (lit< tt) (lit< tt) h
word_of-read (Srli rd rs1 shift) h = shift-read 0b0000000 0b101 rd rs1 shift (lit< tt) (lit< tt) h
word_of-read (Srai rd rs1 shift) h = shift-read 0b0100000 0b101 rd rs1 shift (lit< tt) (lit< tt) h
word_of-read (Add rd rs1 rs2) h = operation-read 0b0000000 0b000 rd rs1 rs2 (lit< tt) (lit< tt) h
word_of-read (Sub rd rs1 rs2) h = operation-read 0b0100000 0b000 rd rs1 rs2 (lit< tt) (lit< tt) h
word_of-read (Sll rd rs1 rs2) h = operation-read 0b0000000 0b001 rd rs1 rs2 (lit< tt) (lit< tt) h
word_of-read (Slt rd rs1 rs2) h = operation-read 0b0000000 0b010 rd rs1 rs2 (lit< tt) (lit< tt) h
word_of-read (Sltu rd rs1 rs2) h = operation-read 0b0000000 0b011 rd rs1 rs2 (lit< tt) (lit< tt) h
word_of-read (Xor rd rs1 rs2) h = operation-read 0b0000000 0b100 rd rs1 rs2 (lit< tt) (lit< tt) h
word_of-read (Srl rd rs1 rs2) h = operation-read 0b0000000 0b101 rd rs1 rs2 (lit< tt) (lit< tt) h
word_of-read (Sra rd rs1 rs2) h = operation-read 0b0100000 0b101 rd rs1 rs2 (lit< tt) (lit< tt) h
word_of-read (Or rd rs1 rs2) h = operation-read 0b0000000 0b110 rd rs1 rs2 (lit< tt) (lit< tt) h
word_of-read (And rd rs1 rs2) h = operation-read 0b0000000 0b111 rd rs1 rs2 (lit< tt) (lit< tt) h
word_of-read (Mul rd rs1 rs2) h = operation-read 0b0000001 0b000 rd rs1 rs2 (lit< tt) (lit< tt) h
word_of-read (Mulh rd rs1 rs2) h = operation-read 0b0000001 0b001 rd rs1 rs2 (lit< tt) (lit< tt) h
word_of-read (Mulhsu rd rs1 rs2) h = operation-read 0b0000001 0b010 rd rs1 rs2 (lit< tt) (lit< tt) h
word_of-read (Mulhu rd rs1 rs2) h = operation-read 0b0000001 0b011 rd rs1 rs2 (lit< tt) (lit< tt) h
word_of-read (Div rd rs1 rs2) h = operation-read 0b0000001 0b100 rd rs1 rs2 (lit< tt) (lit< tt) h
word_of-read (Divu rd rs1 rs2) h = operation-read 0b0000001 0b101 rd rs1 rs2 (lit< tt) (lit< tt) h
word_of-read (Rem rd rs1 rs2) h = operation-read 0b0000001 0b110 rd rs1 rs2 (lit< tt) (lit< tt) h
word_of-read (Remu rd rs1 rs2) h = operation-read 0b0000001 0b111 rd rs1 rs2 (lit< tt) (lit< tt) h
word_of-read (Fence rd rs1 mode predecessor successor) h =
    fence-read 0b000 rd rs1 mode predecessor successor (lit< tt) h
word_of-read Ecall h = refl
word_of-read Ebreak h = refl
