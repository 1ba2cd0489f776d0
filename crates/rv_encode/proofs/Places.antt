-- The fields of a word that is a sum of fields, and a word as the sum of its fields. Each format is R with some of its
-- fields cut or joined, so that all is said of R and told of the others.
use Rattle.std.proofs.Common.{ℕ, ◌≡◌, ◌<◌, ◌+◌, ◌*◌, ◌/◌, ◌%◌, ◌^◌, ◌∙◌, arith}
use Rattle.rv_encode.specs.Formats.{r_word, i_word, s_word, b_word, u_word, j_word, fence_word, bits}
use Rattle.rv_encode.specs.Encodes.{IsEvenBelow}
use Rattle.rv_encode.specs.Decode.{opcode, rd, funct3, rs1, rs2, funct7, mode, predecessor, successor, immediate_i, immediate_s, immediate_b, immediate_u, immediate_j}

pub record HasR (word f7 r2 r1 f3 r op : ℕ) : Type 0 where
  pub is_opcode : opcode word ≡ op
  pub is_rd : rd word ≡ r
  pub is_funct3 : funct3 word ≡ f3
  pub is_rs1 : rs1 word ≡ r1
  pub is_rs2 : rs2 word ≡ r2
  pub is_funct7 : funct7 word ≡ f7

pub r_word-has :
    (f7 r2 r1 f3 r op : ℕ) → f7 < 128 → r2 < 32 → r1 < 32 → f3 < 8 → r < 32 → op < 128
    → HasR (r_word f7 r2 r1 f3 r op) f7 r2 r1 f3 r op
r_word-has f7 r2 r1 f3 r op h7 h2 h1 h3 hr ho = record {
  is_opcode = omega arith;
  is_rd = omega arith;
  is_funct3 = omega arith;
  is_rs1 = omega arith;
  is_rs2 = omega arith;
  is_funct7 = omega arith;
}

-- the other formats as R

i_word-is : (imm r1 f3 r op : ℕ) → i_word imm r1 f3 r op ≡ r_word (imm / 32) (imm % 32) r1 f3 r op
i_word-is imm r1 f3 r op = omega arith

b_word-is :
    (imm r2 r1 f3 op : ℕ)
    → b_word imm r2 r1 f3 op
    ≡ r_word (bits 12 12 imm * 64 + bits 10 5 imm) r2 r1 f3 (bits 4 1 imm * 2 + bits 11 11 imm) op
b_word-is imm r2 r1 f3 op = omega arith

u_word-is :
    (imm r op : ℕ)
    → u_word imm r op ≡ r_word (imm / 8192) (imm / 256 % 32) (imm / 8 % 32) (imm % 8) r op
u_word-is imm r op = omega arith

j_word-is :
    (imm r op : ℕ)
    → j_word imm r op
    ≡ r_word (bits 20 20 imm * 64 + bits 10 5 imm) (bits 4 1 imm * 2 + bits 11 11 imm)
    (bits 19 15 imm) (bits 14 12 imm) r op
j_word-is imm r op = omega arith

fence_word-is :
    (m p s r1 f3 r op : ℕ) → s < 16
    → fence_word m p s r1 f3 r op ≡ r_word (m * 8 + p / 2) (p % 2 * 16 + s) r1 f3 r op
fence_word-is m p s r1 f3 r op hs = omega arith

-- their fields, as those of R

pub i_word-has :
    (imm r1 f3 r op : ℕ) → imm < 4096 → r1 < 32 → f3 < 8 → r < 32 → op < 128
    → HasR (i_word imm r1 f3 r op) (imm / 32) (imm % 32) r1 f3 r op
i_word-has imm r1 f3 r op hi h1 h3 hr ho =
    rw (i_word-is imm r1 f3 r op)
    (r_word-has (imm / 32) (imm % 32) r1 f3 r op (omega arith) (omega arith) h1 h3 hr ho)

pub s_word-has :
    (imm r2 r1 f3 op : ℕ) → imm < 4096 → r2 < 32 → r1 < 32 → f3 < 8 → op < 128
    → HasR (s_word imm r2 r1 f3 op) (bits 11 5 imm) r2 r1 f3 (bits 4 0 imm) op
s_word-has imm r2 r1 f3 op hi h2 h1 h3 ho =
    r_word-has (bits 11 5 imm) r2 r1 f3 (bits 4 0 imm) op (omega arith) h2 h1 h3 (omega arith) ho

pub b_word-has :
    (imm r2 r1 f3 op : ℕ) → r2 < 32 → r1 < 32 → f3 < 8 → op < 128
    → HasR (b_word imm r2 r1 f3 op) (bits 12 12 imm * 64 + bits 10 5 imm) r2 r1 f3
    (bits 4 1 imm * 2 + bits 11 11 imm) op
b_word-has imm r2 r1 f3 op h2 h1 h3 ho =
    rw (b_word-is imm r2 r1 f3 op)
    (r_word-has (bits 12 12 imm * 64 + bits 10 5 imm) r2 r1 f3 (bits 4 1 imm * 2 + bits 11 11 imm) op
    (omega arith) h2 h1 h3 (omega arith) ho)

pub u_word-has :
    (imm r op : ℕ) → imm < 1048576 → r < 32 → op < 128
    → HasR (u_word imm r op) (imm / 8192) (imm / 256 % 32) (imm / 8 % 32) (imm % 8) r op
u_word-has imm r op hi hr ho =
    rw (u_word-is imm r op)
    (r_word-has (imm / 8192) (imm / 256 % 32) (imm / 8 % 32) (imm % 8) r op
    (omega arith) (omega arith) (omega arith) (omega arith) hr ho)

pub j_word-has :
    (imm r op : ℕ) → r < 32 → op < 128
    → HasR (j_word imm r op) (bits 20 20 imm * 64 + bits 10 5 imm) (bits 4 1 imm * 2 + bits 11 11 imm)
    (bits 19 15 imm) (bits 14 12 imm) r op
j_word-has imm r op hr ho =
    rw (j_word-is imm r op)
    (r_word-has (bits 20 20 imm * 64 + bits 10 5 imm) (bits 4 1 imm * 2 + bits 11 11 imm)
    (bits 19 15 imm) (bits 14 12 imm) r op (omega arith) (omega arith) (omega arith) (omega arith) hr ho)

pub fence_word-has :
    (m p s r1 f3 r op : ℕ) → m < 16 → p < 16 → s < 16 → r1 < 32 → f3 < 8 → r < 32 → op < 128
    → HasR (fence_word m p s r1 f3 r op) (m * 8 + p / 2) (p % 2 * 16 + s) r1 f3 r op
fence_word-has m p s r1 f3 r op hm hp hs h1 h3 hr ho =
    rw (fence_word-is m p s r1 f3 r op hs)
    (r_word-has (m * 8 + p / 2) (p % 2 * 16 + s) r1 f3 r op (omega arith) (omega arith) h1 h3 hr ho)

-- what stands in more than one field, or in a part of one, by the fields of R

joined_i : (w : ℕ) → immediate_i w ≡ funct7 w * 32 + rs2 w
joined_i w = omega arith

joined_b :
    (w : ℕ)
    → immediate_b w ≡ funct7 w / 64 * 4096 + rd w % 2 * 2048 + funct7 w % 64 * 32 + rd w / 2 * 2
joined_b w = omega arith

joined_u : (w : ℕ) → immediate_u w ≡ funct7 w * 8192 + rs2 w * 256 + rs1 w * 8 + funct3 w
joined_u w = omega arith

joined_j :
    (w : ℕ)
    → immediate_j w
    ≡ funct7 w / 64 * 1048576 + (rs1 w * 8 + funct3 w) * 4096 + rs2 w % 2 * 2048
    + (funct7 w % 64 * 16 + rs2 w / 2) * 2
joined_j w = omega arith

part_mode : (w : ℕ) → mode w ≡ funct7 w / 8
part_mode w = omega arith

part_predecessor : (w : ℕ) → predecessor w ≡ funct7 w % 8 * 2 + rs2 w / 16
part_predecessor w = omega arith

part_successor : (w : ℕ) → successor w ≡ rs2 w % 16
part_successor w = omega arith

pub i_imm :
    (w imm r1 f3 r op : ℕ) → imm < 4096 → HasR w (imm / 32) (imm % 32) r1 f3 r op
    → immediate_i w ≡ imm
i_imm w imm r1 f3 r op h f =
    joined_i w ∙ rw (f.is_funct7, f.is_rs2) (omega arith)

pub s_imm :
    (w imm r2 r1 f3 op : ℕ) → imm < 4096 → HasR w (bits 11 5 imm) r2 r1 f3 (bits 4 0 imm) op
    → immediate_s w ≡ imm
s_imm w imm r2 r1 f3 op h f = rw (f.is_funct7, f.is_rd) (omega arith)

pub b_imm :
    (w imm r2 r1 f3 op : ℕ) → IsEvenBelow 8192 imm
    → HasR w (bits 12 12 imm * 64 + bits 10 5 imm) r2 r1 f3 (bits 4 1 imm * 2 + bits 11 11 imm) op
    → immediate_b w ≡ imm
b_imm w imm r2 r1 f3 op h f = joined_b w ∙ rw (f.is_funct7, f.is_rd) (omega arith)

pub u_imm :
    (w imm r op : ℕ) → imm < 1048576
    → HasR w (imm / 8192) (imm / 256 % 32) (imm / 8 % 32) (imm % 8) r op
    → immediate_u w ≡ imm
u_imm w imm r op h f =
    joined_u w ∙ rw (f.is_funct7, f.is_rs2, f.is_rs1, f.is_funct3) (omega arith)

pub j_imm :
    (w imm r op : ℕ) → IsEvenBelow 2097152 imm
    → HasR w (bits 20 20 imm * 64 + bits 10 5 imm) (bits 4 1 imm * 2 + bits 11 11 imm)
    (bits 19 15 imm) (bits 14 12 imm) r op
    → immediate_j w ≡ imm
j_imm w imm r op h f =
    joined_j w ∙ rw (f.is_funct7, f.is_rs2, f.is_rs1, f.is_funct3) (omega arith)

pub record HasSets (word m p s : ℕ) : Type 0 where
  pub is_mode : mode word ≡ m
  pub is_predecessor : predecessor word ≡ p
  pub is_successor : successor word ≡ s

pub fence_sets :
    (w m p s r1 f3 r op : ℕ) → m < 16 → p < 16 → s < 16
    → HasR w (m * 8 + p / 2) (p % 2 * 16 + s) r1 f3 r op → HasSets w m p s
fence_sets w m p s r1 f3 r op hm hp hs f = record {
  is_mode = part_mode w ∙ rw f.is_funct7 (omega arith);
  is_predecessor = part_predecessor w ∙ rw (f.is_funct7, f.is_rs2) (omega arith);
  is_successor = part_successor w ∙ rw f.is_rs2 (omega arith);
}

-- a word is the sum of its fields

pub whole_r :
    (w : ℕ) → w < 2 ^ 32
    → w ≡ r_word (funct7 w) (rs2 w) (rs1 w) (funct3 w) (rd w) (opcode w)
whole_r w h = omega arith

pub whole_i :
    (w : ℕ) → w < 2 ^ 32 → w ≡ i_word (immediate_i w) (rs1 w) (funct3 w) (rd w) (opcode w)
whole_i w h = omega arith

pub whole_s :
    (w : ℕ) → w < 2 ^ 32 → w ≡ s_word (immediate_s w) (rs2 w) (rs1 w) (funct3 w) (opcode w)
whole_s w h = omega arith

pub whole_b :
    (w : ℕ) → w < 2 ^ 32 → w ≡ b_word (immediate_b w) (rs2 w) (rs1 w) (funct3 w) (opcode w)
whole_b w h = omega arith

pub whole_u : (w : ℕ) → w < 2 ^ 32 → w ≡ u_word (immediate_u w) (rd w) (opcode w)
whole_u w h = omega arith

pub whole_j : (w : ℕ) → w < 2 ^ 32 → w ≡ j_word (immediate_j w) (rd w) (opcode w)
whole_j w h = omega arith

pub whole_fence :
    (w : ℕ) → w < 2 ^ 32
    → w ≡ fence_word (mode w) (predecessor w) (successor w) (rs1 w) (funct3 w) (rd w) (opcode w)
whole_fence w h = omega arith
