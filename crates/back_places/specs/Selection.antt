-- The instructions of arithmetic, of tests and of jumps.
use Rattle.std.specs.Prelude.{ℕ, ◌<◌, ◌≤◌, ◌+◌, ◌-◌, ◌*◌, ◌%◌, ◌^◌, ℤ, pos, unsigned_abs, Bool, true, false, List, [], ◌∷◌, ◌++◌, Option, Some, None, if◌then◌else◌}
use Rattle.std.specs.Int.{int_rem_euclid}
use Rattle.rv_encode.specs.declared.instruction.Instr.{Instr}
use Rattle.rv_encode.specs.declared.instruction.Instr.TheVariants.{Auipc, Jal, Jalr, Beq, Bne, Blt, Bge, Bltu, Bgeu, Addi, Slti, Sltiu, Xori, Ori, Andi, Slli, Srli, Srai, Add, Sub, Sll, Slt, Sltu, Xor, Srl, Sra, Or, And, Mul, Mulh, Div, Rem}
use Rattle.mid_code.specs.declared.operation.Arithmetic.{Arithmetic}
use Rattle.mid_code.specs.declared.operation.Arithmetic.TheVariants as which
use Rattle.mid_code.specs.declared.operation.Comparison.{Comparison}
use Rattle.mid_code.specs.declared.operation.Comparison.TheVariants as comparison
use Rattle.back_places.specs.declared.place.Place.{Place}
use Rattle.back_places.specs.declared.place.Place.TheVariants.{InRegister, InSlot, AsConstant}
use Rattle.back_places.specs.Places.{Way}
use Rattle.back_places.specs.Operands.{high_part, low_part, is_short, read_in, read_code, given_in, keep_code}

-- what is computed of two registers
abbrev pub arithmetic_of : Arithmetic → (to first second : ℕ) → Instr
arithmetic_of which.Add to a b = Add to a b
arithmetic_of which.Subtract to a b = Sub to a b
arithmetic_of which.Multiply to a b = Mul to a b
arithmetic_of which.MultiplyHigh to a b = Mulh to a b
arithmetic_of which.Divide to a b = Div to a b
arithmetic_of which.Remainder to a b = Rem to a b
arithmetic_of which.And to a b = And to a b
arithmetic_of which.Or to a b = Or to a b
arithmetic_of which.ExclusiveOr to a b = Xor to a b
arithmetic_of which.ShiftLeft to a b = Sll to a b
arithmetic_of which.ShiftRight to a b = Srl to a b
arithmetic_of which.ShiftRightSigned to a b = Sra to a b
arithmetic_of which.Less to a b = Slt to a b
arithmetic_of which.LessUnsigned to a b = Sltu to a b

-- an instruction with a short word as its immediate; none where the word is not short
abbrev pub with_short : ((immediate : ℕ) → Instr) → (word : ℕ) → Option Instr
with_short make word = if is_short word then Some (make (low_part word)) else None

-- the same of a register and a word, in one instruction; none where there is no such instruction
abbrev pub immediate_of : Arithmetic → (to first word : ℕ) → Option Instr
immediate_of which.Add to a w = with_short (Addi to a) w
immediate_of which.Subtract to a w = with_short (Addi to a) ((2 ^ 32 - w) % 2 ^ 32)
immediate_of which.Multiply to a w = None
immediate_of which.MultiplyHigh to a w = None
immediate_of which.Divide to a w = None
immediate_of which.Remainder to a w = None
immediate_of which.And to a w = with_short (Andi to a) w
immediate_of which.Or to a w = with_short (Ori to a) w
immediate_of which.ExclusiveOr to a w = with_short (Xori to a) w
immediate_of which.ShiftLeft to a w = Some (Slli to a (w % 32))
immediate_of which.ShiftRight to a w = Some (Srli to a (w % 32))
immediate_of which.ShiftRightSigned to a w = Some (Srai to a (w % 32))
immediate_of which.Less to a w = with_short (Slti to a) w
immediate_of which.LessUnsigned to a w = with_short (Sltiu to a) w

-- two operands, an instruction, and its result to its place
abbrev pub binary_code : (way : Way) → (first second target : Place) → ((to a b : ℕ) → Instr) → List Instr
binary_code way first second target i =
    read_code way 5 first ++ (read_code way 6 second ++ (i (given_in target) (read_in 5 first) (read_in 6 second) ∷ keep_code way target))

-- an operand, and an instruction with the other one in it, where there is one
abbrev pub short_code : (way : Way) → (first : Place) → (word : ℕ) → (target : Place) → Arithmetic → Option Instr → List Instr
short_code way first word target which None = binary_code way first (AsConstant word) target (arithmetic_of which)
short_code way first word target which (Some i) = read_code way 5 first ++ (i ∷ keep_code way target)

abbrev pub compute_code : (way : Way) → (first second target : Place) → Arithmetic → List Instr
compute_code way first (InRegister r) target which = binary_code way first (InRegister r) target (arithmetic_of which)
compute_code way first (InSlot k) target which = binary_code way first (InSlot k) target (arithmetic_of which)
compute_code way first (AsConstant w) target which =
    short_code way first w target which (immediate_of which (given_in target) (read_in 5 first) w)

-- a branch where a comparison holds, and where it does not
abbrev pub branch_where : Comparison → (first second offset : ℕ) → Instr
branch_where comparison.Equal a b offset = Beq a b offset
branch_where comparison.Different a b offset = Bne a b offset
branch_where comparison.Less a b offset = Blt a b offset
branch_where comparison.AtLeast a b offset = Bge a b offset
branch_where comparison.LessUnsigned a b offset = Bltu a b offset
branch_where comparison.AtLeastUnsigned a b offset = Bgeu a b offset

abbrev pub branch_unless : Comparison → (first second offset : ℕ) → Instr
branch_unless comparison.Equal a b offset = Bne a b offset
branch_unless comparison.Different a b offset = Beq a b offset
branch_unless comparison.Less a b offset = Bge a b offset
branch_unless comparison.AtLeast a b offset = Blt a b offset
branch_unless comparison.LessUnsigned a b offset = Bgeu a b offset
branch_unless comparison.AtLeastUnsigned a b offset = Bltu a b offset

-- the offsets in bytes from a word to another: of a branch, of a jump, and of a jump to anywhere
abbrev pub branch_offset : (from to : ℕ) → ℕ
branch_offset from to = (4 * to + 2 ^ 28 - 4 * from) % 2 ^ 13

abbrev pub jump_offset : (from to : ℕ) → ℕ
jump_offset from to = (4 * to + 2 ^ 28 - 4 * from) % 2 ^ 21

abbrev pub far_offset : (from to : ℕ) → ℕ
far_offset from to = (4 * to + 2 ^ 32 - 4 * from) % 2 ^ 32

-- a jump from a position to any other, with the return address in a register, or in register 0
abbrev pub far_jump_code : (link from to : ℕ) → List Instr
far_jump_code link from to = Auipc 7 (high_part (far_offset from to)) ∷ Jalr link 7 (low_part (far_offset from to)) ∷ []

abbrev pub jump_code : (near : Bool) → (link from to : ℕ) → List Instr
jump_code true link from to = Jal link (jump_offset from to) ∷ []
jump_code false link from to = far_jump_code link from to

-- how far a branch, and a jump, goes in its short form
pub record WithinBranch (from to : ℕ) : Type 0 where
  pub behind : to < from + 2 ^ 10
  pub before : from ≤ to + 2 ^ 10

pub record WithinJump (from to : ℕ) : Type 0 where
  pub behind : to < from + 2 ^ 18
  pub before : from ≤ to + 2 ^ 18

-- a branch to another position unless a comparison holds; far ones are a branch over a jump
abbrev pub branch_code : (near : Bool) → Comparison → (first second from to : ℕ) → List Instr
branch_code true c a b from to = branch_unless c a b (branch_offset from to) ∷ []
branch_code false c a b from to = branch_where c a b 12 ∷ far_jump_code 0 (from + 1) to

-- the lower 12 bits of a signed offset
abbrev pub low_12 : ℤ → ℕ
low_12 offset = unsigned_abs (int_rem_euclid offset (pos (2 ^ 12)))
