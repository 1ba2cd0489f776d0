-- One step of the machine, one row an instruction (RISC-V Unprivileged ISA, 2.4 to 2.8, and the M
-- extension).
use Rattle.std.specs.Prelude.{◌≡◌, ℕ, ◌+◌, ◌*◌, List, Option, Some, None, option_map, Bool, not, min, if◌then◌else◌, ◌==◌, nat_lt, bit_and, bit_or, bit_xor}
use Rattle.rv_encode.specs.declared.instruction.Instr.{Instr}
use Rattle.rv_encode.specs.declared.instruction.Instr.TheVariants.{Lui, Auipc, Jal, Jalr, Beq, Bne, Blt, Bge, Bltu, Bgeu, Lb, Lh, Lw, Lbu, Lhu, Sb, Sh, Sw, Addi, Slti, Sltiu, Xori, Ori, Andi, Slli, Srli, Srai, Add, Sub, Sll, Slt, Sltu, Xor, Srl, Sra, Or, And, Mul, Mulh, Mulhsu, Mulhu, Div, Divu, Rem, Remu, Fence, Ecall, Ebreak}
use Rattle.rv_encode.specs.Encodes.{Encodes}
use Rattle.rv_encode.specs.Decode.{decode_of}
use Rattle.rv_machine.specs.declared.ending.TrapKind.{TrapKind}
use Rattle.rv_machine.specs.declared.ending.TrapKind.TheVariants.{FetchAddress, BadWord, LoadAddress, StoreAddress, BadCall, Break}
use Rattle.rv_machine.specs.declared.ending.StepEnd.{StepEnd}
use Rattle.rv_machine.specs.declared.ending.StepEnd.TheVariants.{Went, Call, Trap}
use Rattle.rv_machine.specs.State.{State, Counted, register, put}
use Rattle.rv_machine.specs.Memory.{number_at, stored_at}
use Rattle.base.specs.Arithmetic.{sum32, difference32, less_signed, one_if_less_signed, one_if_less, shift_left, shift_right, shift_right_signed, product32, high_signed, quotient_signed, remainder_signed}
use Rattle.rv_machine.specs.Arithmetic.{even, sign_extended, high_mixed, high_unsigned, quotient, remainder}

-- what a step comes to: the next state, an environment call, or a trap with its address; with the
-- latter two nothing changes
pub data Result : Type 0 where
  next : State → Result
  environment_call : ℕ → Result
  trapped : TrapKind → ℕ → Result

abbrev pub go_to : ℕ → State → State
go_to address s = record s { pc = address }

abbrev pub behind : State → State
behind s = go_to (sum32 s.pc 4) s

-- a result in a register, and on with the next instruction
abbrev pub gives : ℕ → ℕ → State → Result
gives rd value s = next (behind (put rd value s))

abbrev pub branch : Bool → ℕ → State → Result
branch taken offset s = if taken then next (go_to (sum32 s.pc (sign_extended 13 offset)) s) else next (behind s)

-- the address of the next instruction in a register, and on at the target
abbrev pub link : ℕ → ℕ → State → Result
link rd target s = next (go_to target (put rd (sum32 s.pc 4) s))

-- a register and a signed offset of 12 bits
abbrev pub address : ℕ → ℕ → State → ℕ
address rs1 offset s = sum32 (register s rs1) (sign_extended 12 offset)

-- a number from the memory in a register, where there is such an access
abbrev pub load : ℕ → Option ℕ → State → Result
load rd None s = trapped LoadAddress s.pc
load rd (Some value) s = gives rd value s

-- the memory after a store, where there is such an access
abbrev pub store : Option (List ℕ) → State → Result
store None s = trapped StoreAddress s.pc
store (Some memory) s = next (behind (record s { memory = memory }))

-- register 17 says which call; there are five
abbrev pub call : ℕ → State → Result
call which s = if nat_lt which 5 then environment_call which else trapped BadCall s.pc

-- one row an instruction
abbrev pub execute : Instr → State → Result
execute (Lui rd imm) s = gives rd (imm * 4096) s
execute (Auipc rd imm) s = gives rd (sum32 s.pc (imm * 4096)) s
execute (Jal rd offset) s = link rd (sum32 s.pc (sign_extended 21 offset)) s
execute (Jalr rd rs1 offset) s = link rd (even (address rs1 offset s)) s
execute (Beq rs1 rs2 offset) s = branch (register s rs1 == register s rs2) offset s
execute (Bne rs1 rs2 offset) s = branch (not (register s rs1 == register s rs2)) offset s
execute (Blt rs1 rs2 offset) s = branch (less_signed (register s rs1) (register s rs2)) offset s
execute (Bge rs1 rs2 offset) s = branch (not (less_signed (register s rs1) (register s rs2))) offset s
execute (Bltu rs1 rs2 offset) s = branch (nat_lt (register s rs1) (register s rs2)) offset s
execute (Bgeu rs1 rs2 offset) s = branch (not (nat_lt (register s rs1) (register s rs2))) offset s
execute (Lb rd rs1 offset) s =
    load rd (option_map (sign_extended 8) (number_at 1 (address rs1 offset s) s.memory)) s
execute (Lh rd rs1 offset) s =
    load rd (option_map (sign_extended 16) (number_at 2 (address rs1 offset s) s.memory)) s
execute (Lw rd rs1 offset) s = load rd (number_at 4 (address rs1 offset s) s.memory) s
execute (Lbu rd rs1 offset) s = load rd (number_at 1 (address rs1 offset s) s.memory) s
execute (Lhu rd rs1 offset) s = load rd (number_at 2 (address rs1 offset s) s.memory) s
execute (Sb rs2 rs1 offset) s = store (stored_at 1 (address rs1 offset s) (register s rs2) s.memory) s
execute (Sh rs2 rs1 offset) s = store (stored_at 2 (address rs1 offset s) (register s rs2) s.memory) s
execute (Sw rs2 rs1 offset) s = store (stored_at 4 (address rs1 offset s) (register s rs2) s.memory) s
execute (Addi rd rs1 imm) s = gives rd (sum32 (register s rs1) (sign_extended 12 imm)) s
execute (Slti rd rs1 imm) s = gives rd (one_if_less_signed (register s rs1) (sign_extended 12 imm)) s
execute (Sltiu rd rs1 imm) s = gives rd (one_if_less (register s rs1) (sign_extended 12 imm)) s
execute (Xori rd rs1 imm) s = gives rd (bit_xor (register s rs1) (sign_extended 12 imm)) s
execute (Ori rd rs1 imm) s = gives rd (bit_or (register s rs1) (sign_extended 12 imm)) s
execute (Andi rd rs1 imm) s = gives rd (bit_and (register s rs1) (sign_extended 12 imm)) s
execute (Slli rd rs1 shift) s = gives rd (shift_left (register s rs1) shift) s
execute (Srli rd rs1 shift) s = gives rd (shift_right (register s rs1) shift) s
execute (Srai rd rs1 shift) s = gives rd (shift_right_signed (register s rs1) shift) s
execute (Add rd rs1 rs2) s = gives rd (sum32 (register s rs1) (register s rs2)) s
execute (Sub rd rs1 rs2) s = gives rd (difference32 (register s rs1) (register s rs2)) s
execute (Sll rd rs1 rs2) s = gives rd (shift_left (register s rs1) (register s rs2)) s
execute (Slt rd rs1 rs2) s = gives rd (one_if_less_signed (register s rs1) (register s rs2)) s
execute (Sltu rd rs1 rs2) s = gives rd (one_if_less (register s rs1) (register s rs2)) s
execute (Xor rd rs1 rs2) s = gives rd (bit_xor (register s rs1) (register s rs2)) s
execute (Srl rd rs1 rs2) s = gives rd (shift_right (register s rs1) (register s rs2)) s
execute (Sra rd rs1 rs2) s = gives rd (shift_right_signed (register s rs1) (register s rs2)) s
execute (Or rd rs1 rs2) s = gives rd (bit_or (register s rs1) (register s rs2)) s
execute (And rd rs1 rs2) s = gives rd (bit_and (register s rs1) (register s rs2)) s
execute (Mul rd rs1 rs2) s = gives rd (product32 (register s rs1) (register s rs2)) s
execute (Mulh rd rs1 rs2) s = gives rd (high_signed (register s rs1) (register s rs2)) s
execute (Mulhsu rd rs1 rs2) s = gives rd (high_mixed (register s rs1) (register s rs2)) s
execute (Mulhu rd rs1 rs2) s = gives rd (high_unsigned (register s rs1) (register s rs2)) s
execute (Div rd rs1 rs2) s = gives rd (quotient_signed (register s rs1) (register s rs2)) s
execute (Divu rd rs1 rs2) s = gives rd (quotient (register s rs1) (register s rs2)) s
execute (Rem rd rs1 rs2) s = gives rd (remainder_signed (register s rs1) (register s rs2)) s
execute (Remu rd rs1 rs2) s = gives rd (remainder (register s rs1) (register s rs2)) s
execute (Fence rd rs1 mode predecessor successor) s = next (behind s)
execute Ecall s = call (register s 17) s
execute Ebreak s = trapped Break s.pc

-- one step: the word at the pc, its instruction, and that instruction's row; a fetch that is no access
-- traps with the address to be fetched, and a word that is no instruction at its address
pub data Step (s : State) (result : Result) : Type 0 where
  unfetched : number_at 4 s.pc s.memory ≡ None → result ≡ trapped FetchAddress s.pc → Step s result
  unknown : (word : ℕ) → number_at 4 s.pc s.memory ≡ Some word → ((i : Instr) → Encodes i word → ⊥) → result ≡ trapped BadWord s.pc → Step s result
  known : (word : ℕ) (i : Instr) → number_at 4 s.pc s.memory ≡ Some word → Encodes i word → result ≡ execute i s → Step s result

-- the same as a function, which runs compute with
abbrev pub decoded : Option Instr → State → Result
decoded None s = trapped BadWord s.pc
decoded (Some instruction) s = execute instruction s

abbrev pub fetched : Option ℕ → State → Result
fetched None s = trapped FetchAddress s.pc
fetched (Some word) s = decoded (decode_of word) s

unfoldable pub step_of : State → Result
step_of s = fetched (number_at 4 s.pc s.memory) s

-- what a call answers and leaves where it does what a step comes to: the count rises with each step
-- that went, up to its type's end
abbrev pub ResultIs : Result → Counted → StepEnd → Counted → Type 0
ResultIs r old Went new = (r ≡ next new.state) × (new.count ≡ min (old.count + 1) 18446744073709551615)
ResultIs r old (Call which) new = (r ≡ environment_call which) × (new ≡ old)
ResultIs r old (Trap kind address) new = (r ≡ trapped kind address) × (new ≡ old)

-- what a call of `step` answers and leaves
abbrev pub Steps : Counted → StepEnd → Counted → Type 0
Steps old end new = ResultIs (step_of old.state) old end new
