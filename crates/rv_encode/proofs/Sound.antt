-- The instruction that is read of a word is that word.
use Rattle.std.proofs.Common.{ℕ, ◌≡◌, ◌<◌, ◌^◌, ◌==◌, Bool, true, false, if◌then◌else◌, subst, sym, List, [], ◌∷◌, Option, IfSome, eqb-true, refl, arith}
use Rattle.rv_encode.specs.Formats.{r_word, i_word, s_word, b_word, u_word, j_word, fence_word}
use Rattle.rv_encode.specs.Encodes.{IsRegister, IsEvenBelow, Encodes}
use Rattle.rv_encode.specs.Decode.{opcode, rd, funct3, rs1, rs2, funct7, mode, predecessor, successor, immediate_i, immediate_s, immediate_b, immediate_u, immediate_j, row_of, branch, load, store, left_shift, right_shift, immediate, base_operation, other_operation, multiplication, immediate_operation, operation, jump_to_register, fence, system, decode_of}
use Rattle.rv_encode.proofs.Places.{whole_r, whole_i, whole_s, whole_b, whole_u, whole_j, whole_fence}
use Rattle.rv_encode.specs.declared.instruction.Instr.{Instr}

-- what is read is the word, if anything is
abbrev Fits : ℕ → Option Instr → Type 0
Fits w o = IfSome o (λ i. Encodes i w)

if_true :
    (P : Option Instr → Type 0) (b : Bool) {x y : Option Instr} → (b ≡ true → P x) → P y
    → P (if b then x else y)
if_true P true f q = f refl
if_true P false f q = q

if_equal :
    (P : Option Instr → Type 0) (m n : ℕ) {x y : Option Instr} → (m ≡ n → P x) → P y
    → P (if m == n then x else y)
if_equal P m n f q = if_true P (m == n) (λ e. f (eqb-true m n e)) q

-- each row of a table is read of the word that has its number at that place
abbrev AllFit : (ℕ → ℕ) → List (ℕ × Instr) → Type 0
AllFit word [] = Unit {0}
AllFit word (row ∷ rows) = Encodes row.1 (word row.0) × AllFit word rows

row-sound : (word : ℕ → ℕ) (number : ℕ) (rows : List (ℕ × Instr)) → AllFit word rows → Fits (word number) (row_of number rows)
row-sound word number [] h = tt
row-sound word number (row ∷ rows) h =
    if_equal (Fits (word number)) number row.0 (λ e. subst (λ k. Encodes row.1 (word k)) (sym e) h.0) (row-sound word number rows h.1)

branch-fit : (r1 r2 imm : ℕ) → IsRegister r1 × IsRegister r2 × IsEvenBelow 8192 imm → AllFit (λ k. b_word imm r2 r1 k 0b1100011) (branch r1 r2 imm)
unfolding branch
branch-fit r1 r2 imm h = ((h, refl), ((h, refl), ((h, refl), ((h, refl), ((h, refl), ((h, refl), tt))))))

load-fit : (r r1 imm : ℕ) → IsRegister r × IsRegister r1 × (imm < 4096) → AllFit (λ k. i_word imm r1 k r 0b0000011) (load r r1 imm)
unfolding load
load-fit r r1 imm h = ((h, refl), ((h, refl), ((h, refl), ((h, refl), ((h, refl), tt)))))

jump_to_register-fit : (r r1 imm : ℕ) → IsRegister r × IsRegister r1 × (imm < 4096) → AllFit (λ k. i_word imm r1 k r 0b1100111) (jump_to_register r r1 imm)
unfolding jump_to_register
jump_to_register-fit r r1 imm h = ((h, refl), tt)

immediate-fit : (r r1 imm : ℕ) → IsRegister r × IsRegister r1 × (imm < 4096) → AllFit (λ k. i_word imm r1 k r 0b0010011) (immediate r r1 imm)
unfolding immediate
immediate-fit r r1 imm h = ((h, refl), ((h, refl), ((h, refl), ((h, refl), ((h, refl), ((h, refl), tt))))))

store-fit : (r2 r1 imm : ℕ) → IsRegister r2 × IsRegister r1 × (imm < 4096) → AllFit (λ k. s_word imm r2 r1 k 0b0100011) (store r2 r1 imm)
unfolding store
store-fit r2 r1 imm h = ((h, refl), ((h, refl), ((h, refl), tt)))

base_operation-fit : (r r1 r2 : ℕ) → IsRegister r × IsRegister r1 × IsRegister r2 → AllFit (λ k. r_word 0b0000000 r2 r1 k r 0b0110011) (base_operation r r1 r2)
unfolding base_operation
base_operation-fit r r1 r2 h = ((h, refl), ((h, refl), ((h, refl), ((h, refl), ((h, refl), ((h, refl), ((h, refl), ((h, refl), tt))))))))

other_operation-fit : (r r1 r2 : ℕ) → IsRegister r × IsRegister r1 × IsRegister r2 → AllFit (λ k. r_word 0b0100000 r2 r1 k r 0b0110011) (other_operation r r1 r2)
unfolding other_operation
other_operation-fit r r1 r2 h = ((h, refl), ((h, refl), tt))

multiplication-fit : (r r1 r2 : ℕ) → IsRegister r × IsRegister r1 × IsRegister r2 → AllFit (λ k. r_word 0b0000001 r2 r1 k r 0b0110011) (multiplication r r1 r2)
unfolding multiplication
multiplication-fit r r1 r2 h = ((h, refl), ((h, refl), ((h, refl), ((h, refl), ((h, refl), ((h, refl), ((h, refl), ((h, refl), tt))))))))

left_shift-fit : (r r1 r2 : ℕ) → IsRegister r × IsRegister r1 × IsRegister r2 → AllFit (λ k. r_word k r2 r1 0b001 r 0b0010011) (left_shift r r1 r2)
unfolding left_shift
left_shift-fit r r1 r2 h = ((h, refl), tt)

right_shift-fit : (r r1 r2 : ℕ) → IsRegister r × IsRegister r1 × IsRegister r2 → AllFit (λ k. r_word k r2 r1 0b101 r 0b0010011) (right_shift r r1 r2)
unfolding right_shift
right_shift-fit r r1 r2 h = ((h, refl), ((h, refl), tt))

fence-fit : (r r1 m p s : ℕ) → IsRegister r × IsRegister r1 × (m < 16) × (p < 16) × (s < 16) → AllFit (λ k. fence_word m p s r1 k r 0b0001111) (fence r r1 m p s)
unfolding fence
fence-fit r r1 m p s h = ((h, refl), tt)

system-fit : AllFit (λ k. k) system
unfolding system
system-fit = ((tt, refl), ((tt, refl), tt))

-- so is what a table gives for a word
by_row : (w : ℕ) (word : ℕ → ℕ) (number : ℕ) (rows : List (ℕ × Instr)) → w ≡ word number → AllFit word rows → Fits w (row_of number rows)
by_row w word number rows e h = subst (λ u. Fits u (row_of number rows)) (sym e) (row-sound word number rows h)

operation-sound :
    (w f7 f3 r r1 r2 : ℕ) → IsRegister r × IsRegister r1 × IsRegister r2
    → w ≡ r_word f7 r2 r1 f3 r 0b0110011 → Fits w (operation f7 f3 r r1 r2)
unfolding operation
operation-sound w f7 f3 r r1 r2 h is =
    let Q : ℕ → Type 0 = λ k. w ≡ r_word k r2 r1 f3 r 0b0110011 in
    if_equal (Fits w) f7 0b0000000 (λ e. by_row w (λ k. r_word 0b0000000 r2 r1 k r 0b0110011) f3 _ (subst Q e is) (base_operation-fit r r1 r2 h))
    (if_equal (Fits w) f7 0b0100000 (λ e. by_row w (λ k. r_word 0b0100000 r2 r1 k r 0b0110011) f3 _ (subst Q e is) (other_operation-fit r r1 r2 h))
    (if_equal (Fits w) f7 0b0000001 (λ e. by_row w (λ k. r_word 0b0000001 r2 r1 k r 0b0110011) f3 _ (subst Q e is) (multiplication-fit r r1 r2 h))
    tt))

immediate_operation-sound :
    (w f7 f3 r r1 r2 imm : ℕ) → IsRegister r × IsRegister r1 × IsRegister r2 → imm < 4096
    → w ≡ r_word f7 r2 r1 f3 r 0b0010011 → w ≡ i_word imm r1 f3 r 0b0010011
    → Fits w (immediate_operation f7 f3 r r1 r2 imm)
unfolding immediate_operation
immediate_operation-sound w f7 f3 r r1 r2 imm h hi p q =
    let Q : ℕ → Type 0 = λ k. w ≡ r_word f7 r2 r1 k r 0b0010011 in
    if_equal (Fits w) f3 0b001 (λ e. by_row w (λ k. r_word k r2 r1 0b001 r 0b0010011) f7 _ (subst Q e p) (left_shift-fit r r1 r2 h))
    (if_equal (Fits w) f3 0b101 (λ e. by_row w (λ k. r_word k r2 r1 0b101 r 0b0010011) f7 _ (subst Q e p) (right_shift-fit r r1 r2 h))
    (by_row w (λ k. i_word imm r1 k r 0b0010011) f3 _ q (immediate-fit r r1 imm (h.0, h.1, hi))))

rd-register : (w : ℕ) → IsRegister (rd w)
rd-register w = omega arith

rs1-register : (w : ℕ) → IsRegister (rs1 w)
rs1-register w = omega arith

rs2-register : (w : ℕ) → IsRegister (rs2 w)
rs2-register w = omega arith

even_b : (w : ℕ) → IsEvenBelow 8192 (immediate_b w)
even_b w = (omega arith, omega arith)

even_j : (w : ℕ) → IsEvenBelow 2097152 (immediate_j w)
even_j w = (omega arith, omega arith)

pub decode_of-sound : (w : ℕ) → w < 2 ^ 32 → Fits w (decode_of w)
unfolding decode_of
decode_of-sound w h =
    let d : IsRegister (rd w) = rd-register w in
    let s : IsRegister (rs1 w) = rs1-register w in
    let t : IsRegister (rs2 w) = rs2-register w in
    let i : immediate_i w < 4096 = omega arith in
    let v : immediate_s w < 4096 = omega arith in
    let u : immediate_u w < 1048576 = omega arith in
    let OfU : ℕ → Type 0 = λ k. w ≡ u_word (immediate_u w) (rd w) k in
    let OfJ : ℕ → Type 0 = λ k. w ≡ j_word (immediate_j w) (rd w) k in
    let OfI : ℕ → Type 0 = λ k. w ≡ i_word (immediate_i w) (rs1 w) (funct3 w) (rd w) k in
    let OfS : ℕ → Type 0 = λ k. w ≡ s_word (immediate_s w) (rs2 w) (rs1 w) (funct3 w) k in
    let OfB : ℕ → Type 0 = λ k. w ≡ b_word (immediate_b w) (rs2 w) (rs1 w) (funct3 w) k in
    let OfR : ℕ → Type 0 = λ k. w ≡ r_word (funct7 w) (rs2 w) (rs1 w) (funct3 w) (rd w) k in
    let OfFence : ℕ → Type 0 =
    λ k. w ≡ fence_word (mode w) (predecessor w) (successor w) (rs1 w) (funct3 w) (rd w) k in
    if_equal (Fits w) (opcode w) 0b0110111 (λ e. ((d, u), subst OfU e (whole_u w h)))
    (if_equal (Fits w) (opcode w) 0b0010111 (λ e. ((d, u), subst OfU e (whole_u w h)))
    (if_equal (Fits w) (opcode w) 0b1101111 (λ e. ((d, even_j w), subst OfJ e (whole_j w h)))
    (if_equal (Fits w) (opcode w) 0b1100111
    (λ e. by_row w (λ k. i_word (immediate_i w) (rs1 w) k (rd w) 0b1100111) (funct3 w) _ (subst OfI e (whole_i w h))
    (jump_to_register-fit (rd w) (rs1 w) (immediate_i w) (d, s, i)))
    (if_equal (Fits w) (opcode w) 0b1100011
    (λ e. by_row w (λ k. b_word (immediate_b w) (rs2 w) (rs1 w) k 0b1100011) (funct3 w) _ (subst OfB e (whole_b w h))
    (branch-fit (rs1 w) (rs2 w) (immediate_b w) (s, t, even_b w)))
    (if_equal (Fits w) (opcode w) 0b0000011
    (λ e. by_row w (λ k. i_word (immediate_i w) (rs1 w) k (rd w) 0b0000011) (funct3 w) _ (subst OfI e (whole_i w h))
    (load-fit (rd w) (rs1 w) (immediate_i w) (d, s, i)))
    (if_equal (Fits w) (opcode w) 0b0100011
    (λ e. by_row w (λ k. s_word (immediate_s w) (rs2 w) (rs1 w) k 0b0100011) (funct3 w) _ (subst OfS e (whole_s w h))
    (store-fit (rs2 w) (rs1 w) (immediate_s w) (t, s, v)))
    (if_equal (Fits w) (opcode w) 0b0010011
    (λ e. immediate_operation-sound w (funct7 w) (funct3 w) (rd w) (rs1 w) (rs2 w) (immediate_i w)
    (d, s, t) i (subst OfR e (whole_r w h)) (subst OfI e (whole_i w h)))
    (if_equal (Fits w) (opcode w) 0b0110011
    (λ e. operation-sound w (funct7 w) (funct3 w) (rd w) (rs1 w) (rs2 w) (d, s, t) (subst OfR e (whole_r w h)))
    (if_equal (Fits w) (opcode w) 0b0001111
    (λ e. by_row w (λ k. fence_word (mode w) (predecessor w) (successor w) (rs1 w) k (rd w) 0b0001111) (funct3 w) _
    (subst OfFence e (whole_fence w h))
    (fence-fit (rd w) (rs1 w) (mode w) (predecessor w) (successor w) (d, s, omega arith, omega arith, omega arith)))
    (if_equal (Fits w) (opcode w) 0b1110011 (λ _. by_row w (λ k. k) w _ refl system-fit) tt))))))))))
