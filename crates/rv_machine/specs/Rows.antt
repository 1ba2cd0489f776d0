-- What is kept of a word once it is decoded: a row, whose immediate is a word and whose jump says the place that it
-- leads to. A place counts words from address 0 on.
use Rattle.std.specs.Prelude.{◌≡◌, ℕ, ◌-◌, ◌*◌, ◌%◌, ◌/◌, ◌^◌, ◌≤◌, List, length, Option, Some, None, IfSome, option_map, Bool, not, if◌then◌else◌, ◌==◌, nat_lt, bit_and, bit_or, bit_xor, slice_set, slice_index, slice_index_or}
use Rattle.base.specs.Arithmetic.{sum32, difference32, less_signed, one_if_less_signed, one_if_less, shift_left, shift_right, shift_right_signed, product32, high_signed, quotient_signed, remainder_signed}
use Rattle.rv_encode.specs.declared.instruction.Instr.{Instr}
use Rattle.rv_encode.specs.declared.instruction.Instr.TheVariants as instr
use Rattle.rv_encode.specs.Decode.{decode_of}
use Rattle.rv_machine.specs.Arithmetic.{even, sign_extended, high_mixed, high_unsigned, quotient, remainder}
use Rattle.rv_machine.specs.Memory.{number_at, stored_at}
use Rattle.rv_machine.specs.State.{State, register}
use Rattle.rv_machine.specs.Step.{Result, next, behind, go_to, gives, link, load, store, decoded}
use Rattle.rv_machine.specs.declared.machine.rows.Row.{Row}
use Rattle.rv_machine.specs.declared.machine.rows.Row.TheVariants.{Add, Sub, Sll, Slt, Sltu, Xor, Srl, Sra, Or, And, Mul, Mulh, Mulhsu, Mulhu, Div, Divu, Rem, Remu, Addi, Slti, Sltiu, Xori, Ori, Andi, Slli, Srli, Srai, Beq, Bne, Blt, Bge, Bltu, Bgeu, Lb, Lh, Lw, Lbu, Lhu, Sb, Sh, Sw, Set, Jump, JumpAndLink, JumpTo, JumpToAndLink, Nothing, Leave}

-- the address of the word at a place
abbrev pub address_of : ℕ → ℕ
address_of place = (4 * place) % 2 ^ 32

-- the address that a register and an offset give
abbrev pub reached : ℕ → ℕ → State → ℕ
reached rs1 offset s = sum32 (register s rs1) offset

-- to another place where that is taken, else on with the next instruction
abbrev pub branches : Bool → ℕ → State → Option Result
branches taken target s = Some (next (if taken then go_to (address_of target) s else behind s))

-- what a row does to a machine that stands at its word; none where the word is left to a step
abbrev pub does : Row → State → Option Result
does (Add rd rs1 rs2) s = Some (gives rd (sum32 (register s rs1) (register s rs2)) s)
does (Sub rd rs1 rs2) s = Some (gives rd (difference32 (register s rs1) (register s rs2)) s)
does (Sll rd rs1 rs2) s = Some (gives rd (shift_left (register s rs1) (register s rs2)) s)
does (Slt rd rs1 rs2) s = Some (gives rd (one_if_less_signed (register s rs1) (register s rs2)) s)
does (Sltu rd rs1 rs2) s = Some (gives rd (one_if_less (register s rs1) (register s rs2)) s)
does (Xor rd rs1 rs2) s = Some (gives rd (bit_xor (register s rs1) (register s rs2)) s)
does (Srl rd rs1 rs2) s = Some (gives rd (shift_right (register s rs1) (register s rs2)) s)
does (Sra rd rs1 rs2) s = Some (gives rd (shift_right_signed (register s rs1) (register s rs2)) s)
does (Or rd rs1 rs2) s = Some (gives rd (bit_or (register s rs1) (register s rs2)) s)
does (And rd rs1 rs2) s = Some (gives rd (bit_and (register s rs1) (register s rs2)) s)
does (Mul rd rs1 rs2) s = Some (gives rd (product32 (register s rs1) (register s rs2)) s)
does (Mulh rd rs1 rs2) s = Some (gives rd (high_signed (register s rs1) (register s rs2)) s)
does (Mulhsu rd rs1 rs2) s = Some (gives rd (high_mixed (register s rs1) (register s rs2)) s)
does (Mulhu rd rs1 rs2) s = Some (gives rd (high_unsigned (register s rs1) (register s rs2)) s)
does (Div rd rs1 rs2) s = Some (gives rd (quotient_signed (register s rs1) (register s rs2)) s)
does (Divu rd rs1 rs2) s = Some (gives rd (quotient (register s rs1) (register s rs2)) s)
does (Rem rd rs1 rs2) s = Some (gives rd (remainder_signed (register s rs1) (register s rs2)) s)
does (Remu rd rs1 rs2) s = Some (gives rd (remainder (register s rs1) (register s rs2)) s)
does (Addi rd rs1 value) s = Some (gives rd (sum32 (register s rs1) value) s)
does (Slti rd rs1 value) s = Some (gives rd (one_if_less_signed (register s rs1) value) s)
does (Sltiu rd rs1 value) s = Some (gives rd (one_if_less (register s rs1) value) s)
does (Xori rd rs1 value) s = Some (gives rd (bit_xor (register s rs1) value) s)
does (Ori rd rs1 value) s = Some (gives rd (bit_or (register s rs1) value) s)
does (Andi rd rs1 value) s = Some (gives rd (bit_and (register s rs1) value) s)
does (Slli rd rs1 value) s = Some (gives rd (shift_left (register s rs1) value) s)
does (Srli rd rs1 value) s = Some (gives rd (shift_right (register s rs1) value) s)
does (Srai rd rs1 value) s = Some (gives rd (shift_right_signed (register s rs1) value) s)
does (Beq rs1 rs2 target) s = branches (register s rs1 == register s rs2) target s
does (Bne rs1 rs2 target) s = branches (not (register s rs1 == register s rs2)) target s
does (Blt rs1 rs2 target) s = branches (less_signed (register s rs1) (register s rs2)) target s
does (Bge rs1 rs2 target) s = branches (not (less_signed (register s rs1) (register s rs2))) target s
does (Bltu rs1 rs2 target) s = branches (nat_lt (register s rs1) (register s rs2)) target s
does (Bgeu rs1 rs2 target) s = branches (not (nat_lt (register s rs1) (register s rs2))) target s
does (Lb rd rs1 offset) s = Some (load rd (option_map (sign_extended 8) (number_at 1 (reached rs1 offset s) s.memory)) s)
does (Lh rd rs1 offset) s = Some (load rd (option_map (sign_extended 16) (number_at 2 (reached rs1 offset s) s.memory)) s)
does (Lw rd rs1 offset) s = Some (load rd (number_at 4 (reached rs1 offset s) s.memory) s)
does (Lbu rd rs1 offset) s = Some (load rd (number_at 1 (reached rs1 offset s) s.memory) s)
does (Lhu rd rs1 offset) s = Some (load rd (number_at 2 (reached rs1 offset s) s.memory) s)
does (Sb rs1 rs2 offset) s = Some (store (stored_at 1 (reached rs1 offset s) (register s rs2) s.memory) s)
does (Sh rs1 rs2 offset) s = Some (store (stored_at 2 (reached rs1 offset s) (register s rs2) s.memory) s)
does (Sw rs1 rs2 offset) s = Some (store (stored_at 4 (reached rs1 offset s) (register s rs2) s.memory) s)
does (Set rd value) s = Some (gives rd value s)
does (Jump target) s = Some (next (go_to (address_of target) s))
does (JumpAndLink rd target) s = Some (link rd (address_of target) s)
does (JumpTo rs1 offset) s = Some (next (go_to (even (reached rs1 offset s)) s))
does (JumpToAndLink rd rs1 offset) s = Some (link rd (even (reached rs1 offset s)) s)
does Nothing s = Some (next (behind s))
does Leave s = None

-- the place that a jump from this one leads to, by an offset of k bits
abbrev pub jumped : ℕ → ℕ → ℕ → ℕ
jumped k place offset = sum32 place (sign_extended (k - 2) (offset / 4))

-- a jump whose offset leads to no word is left to a step
abbrev pub to_word : ℕ → Row → Row
to_word offset row = if offset % 4 == 0 then row else Leave

-- what is written into register 0 is lost
abbrev pub unless_zero : ℕ → Row → Row → Row
unless_zero rd zero row = if rd == 0 then zero else row

-- the register that a row writes; rows of register 0 are not kept
abbrev pub destination : ℕ → ℕ
destination rd = if rd == 0 then 1 else rd

-- The row that is kept of an instruction at a place, in four tables, each of which goes on with the next one.

-- branches, jumps, and nothing at all
abbrev pub jump_row : Instr → ℕ → Row
jump_row (instr.Jal rd offset) place =
    to_word offset (unless_zero rd (Jump (jumped 21 place offset)) (JumpAndLink (destination rd) (jumped 21 place offset)))
jump_row (instr.Jalr rd rs1 offset) place =
    unless_zero rd (JumpTo rs1 (sign_extended 12 offset)) (JumpToAndLink (destination rd) rs1 (sign_extended 12 offset))
jump_row (instr.Beq rs1 rs2 offset) place = to_word offset (Beq rs1 rs2 (jumped 13 place offset))
jump_row (instr.Bne rs1 rs2 offset) place = to_word offset (Bne rs1 rs2 (jumped 13 place offset))
jump_row (instr.Blt rs1 rs2 offset) place = to_word offset (Blt rs1 rs2 (jumped 13 place offset))
jump_row (instr.Bge rs1 rs2 offset) place = to_word offset (Bge rs1 rs2 (jumped 13 place offset))
jump_row (instr.Bltu rs1 rs2 offset) place = to_word offset (Bltu rs1 rs2 (jumped 13 place offset))
jump_row (instr.Bgeu rs1 rs2 offset) place = to_word offset (Bgeu rs1 rs2 (jumped 13 place offset))
jump_row (instr.Fence rd rs1 mode predecessor successor) place = Nothing
jump_row other place = Leave

-- loads and stores
abbrev pub transfer_row : Instr → ℕ → Row
transfer_row (instr.Lb rd rs1 offset) place = unless_zero rd Leave (Lb (destination rd) rs1 (sign_extended 12 offset))
transfer_row (instr.Lh rd rs1 offset) place = unless_zero rd Leave (Lh (destination rd) rs1 (sign_extended 12 offset))
transfer_row (instr.Lw rd rs1 offset) place = unless_zero rd Leave (Lw (destination rd) rs1 (sign_extended 12 offset))
transfer_row (instr.Lbu rd rs1 offset) place = unless_zero rd Leave (Lbu (destination rd) rs1 (sign_extended 12 offset))
transfer_row (instr.Lhu rd rs1 offset) place = unless_zero rd Leave (Lhu (destination rd) rs1 (sign_extended 12 offset))
transfer_row (instr.Sb rs2 rs1 offset) place = Sb rs1 rs2 (sign_extended 12 offset)
transfer_row (instr.Sh rs2 rs1 offset) place = Sh rs1 rs2 (sign_extended 12 offset)
transfer_row (instr.Sw rs2 rs1 offset) place = Sw rs1 rs2 (sign_extended 12 offset)
transfer_row other place = jump_row other place

-- operations with an immediate
abbrev pub immediate_row : Instr → ℕ → Row
immediate_row (instr.Lui rd imm) place = unless_zero rd Nothing (Set (destination rd) (imm * 4096))
immediate_row (instr.Auipc rd imm) place = unless_zero rd Nothing (Set (destination rd) (sum32 (address_of place) (imm * 4096)))
immediate_row (instr.Addi rd rs1 imm) place = unless_zero rd Nothing (Addi (destination rd) rs1 (sign_extended 12 imm))
immediate_row (instr.Slti rd rs1 imm) place = unless_zero rd Nothing (Slti (destination rd) rs1 (sign_extended 12 imm))
immediate_row (instr.Sltiu rd rs1 imm) place = unless_zero rd Nothing (Sltiu (destination rd) rs1 (sign_extended 12 imm))
immediate_row (instr.Xori rd rs1 imm) place = unless_zero rd Nothing (Xori (destination rd) rs1 (sign_extended 12 imm))
immediate_row (instr.Ori rd rs1 imm) place = unless_zero rd Nothing (Ori (destination rd) rs1 (sign_extended 12 imm))
immediate_row (instr.Andi rd rs1 imm) place = unless_zero rd Nothing (Andi (destination rd) rs1 (sign_extended 12 imm))
immediate_row (instr.Slli rd rs1 shift) place = unless_zero rd Nothing (Slli (destination rd) rs1 shift)
immediate_row (instr.Srli rd rs1 shift) place = unless_zero rd Nothing (Srli (destination rd) rs1 shift)
immediate_row (instr.Srai rd rs1 shift) place = unless_zero rd Nothing (Srai (destination rd) rs1 shift)
immediate_row other place = transfer_row other place

-- operations on registers
abbrev pub row_of : Instr → ℕ → Row
row_of (instr.Add rd rs1 rs2) place = unless_zero rd Nothing (Add (destination rd) rs1 rs2)
row_of (instr.Sub rd rs1 rs2) place = unless_zero rd Nothing (Sub (destination rd) rs1 rs2)
row_of (instr.Sll rd rs1 rs2) place = unless_zero rd Nothing (Sll (destination rd) rs1 rs2)
row_of (instr.Slt rd rs1 rs2) place = unless_zero rd Nothing (Slt (destination rd) rs1 rs2)
row_of (instr.Sltu rd rs1 rs2) place = unless_zero rd Nothing (Sltu (destination rd) rs1 rs2)
row_of (instr.Xor rd rs1 rs2) place = unless_zero rd Nothing (Xor (destination rd) rs1 rs2)
row_of (instr.Srl rd rs1 rs2) place = unless_zero rd Nothing (Srl (destination rd) rs1 rs2)
row_of (instr.Sra rd rs1 rs2) place = unless_zero rd Nothing (Sra (destination rd) rs1 rs2)
row_of (instr.Or rd rs1 rs2) place = unless_zero rd Nothing (Or (destination rd) rs1 rs2)
row_of (instr.And rd rs1 rs2) place = unless_zero rd Nothing (And (destination rd) rs1 rs2)
row_of (instr.Mul rd rs1 rs2) place = unless_zero rd Nothing (Mul (destination rd) rs1 rs2)
row_of (instr.Mulh rd rs1 rs2) place = unless_zero rd Nothing (Mulh (destination rd) rs1 rs2)
row_of (instr.Mulhsu rd rs1 rs2) place = unless_zero rd Nothing (Mulhsu (destination rd) rs1 rs2)
row_of (instr.Mulhu rd rs1 rs2) place = unless_zero rd Nothing (Mulhu (destination rd) rs1 rs2)
row_of (instr.Div rd rs1 rs2) place = unless_zero rd Nothing (Div (destination rd) rs1 rs2)
row_of (instr.Divu rd rs1 rs2) place = unless_zero rd Nothing (Divu (destination rd) rs1 rs2)
row_of (instr.Rem rd rs1 rs2) place = unless_zero rd Nothing (Rem (destination rd) rs1 rs2)
row_of (instr.Remu rd rs1 rs2) place = unless_zero rd Nothing (Remu (destination rd) rs1 rs2)
row_of other place = immediate_row other place

-- the row that is kept of a word at a place
abbrev pub read_row : Option Instr → ℕ → Row
read_row None place = Leave
read_row (Some instruction) place = row_of instruction place

-- a row does what its word at that place does, wherever it does anything
abbrev pub Means : Row → ℕ → ℕ → Type 0
Means row place word = (s : State) → s.pc ≡ 4 * place → IfSome (does row s) (λ x. x ≡ decoded (decode_of word) s)

-- rows kept of the first words of an arena: each means its word
pub record Kept (rows : List Row) (arena : List ℕ) : Type 0 where
  pub fit : length rows ≤ length arena
  pub means : (place : ℕ) → Means (slice_index_or rows place Leave) place (slice_index arena place)

-- the row of a place, if it has one, given up
abbrev pub given_up : ℕ → List Row → List Row
given_up place rows = if nat_lt place (length rows) then slice_set rows place Leave else rows
