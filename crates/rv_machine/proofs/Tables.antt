-- The tables of rows, each of which goes on with the next one where it has no row for an instruction.
use Rattle.std.proofs.Common.{◌≡◌, ℕ, refl}
use Rattle.rv_encode.specs.declared.instruction.Instr.{Instr}
use Rattle.rv_encode.specs.declared.instruction.Instr.TheVariants.{Add, Sub, Sll, Slt, Sltu, Xor, Srl, Sra, Or, And, Mul, Mulh, Mulhsu, Mulhu, Div, Divu, Rem, Remu, Lui, Auipc, Addi, Slti, Sltiu, Xori, Ori, Andi, Slli, Srli, Srai, Lb, Lh, Lw, Lbu, Lhu, Sb, Sh, Sw}
use Rattle.rv_machine.specs.Rows.{row_of, immediate_row, transfer_row, jump_row}

-- an instruction with two fields, or with three, is another one
abbrev pub IsNotTwo : (ℕ → ℕ → Instr) → Instr → Type 0
IsNotTwo mnemonic i = (a b : ℕ) → i ≡ mnemonic a b → ⊥

abbrev pub IsNotThree : (ℕ → ℕ → ℕ → Instr) → Instr → Type 0
IsNotThree mnemonic i = (a b c : ℕ) → i ≡ mnemonic a b c → ⊥

pub no_transfer :
    (i : Instr) (place : ℕ) → IsNotThree Lb i → IsNotThree Lh i → IsNotThree Lw i → IsNotThree Lbu i → IsNotThree Lhu i → IsNotThree Sb i → IsNotThree Sh i → IsNotThree Sw i → jump_row i place ≡ transfer_row i place
no_transfer (Lb a b c) place h _ _ _ _ _ _ _ = absurd (h a b c refl)
no_transfer (Lh a b c) place _ h _ _ _ _ _ _ = absurd (h a b c refl)
no_transfer (Lw a b c) place _ _ h _ _ _ _ _ = absurd (h a b c refl)
no_transfer (Lbu a b c) place _ _ _ h _ _ _ _ = absurd (h a b c refl)
no_transfer (Lhu a b c) place _ _ _ _ h _ _ _ = absurd (h a b c refl)
no_transfer (Sb a b c) place _ _ _ _ _ h _ _ = absurd (h a b c refl)
no_transfer (Sh a b c) place _ _ _ _ _ _ h _ = absurd (h a b c refl)
no_transfer (Sw a b c) place _ _ _ _ _ _ _ h = absurd (h a b c refl)
no_transfer other place _ _ _ _ _ _ _ _ = refl

pub no_immediate :
    (i : Instr) (place : ℕ) → IsNotTwo Lui i → IsNotTwo Auipc i → IsNotThree Addi i → IsNotThree Slti i → IsNotThree Sltiu i → IsNotThree Xori i → IsNotThree Ori i → IsNotThree Andi i → IsNotThree Slli i → IsNotThree Srli i → IsNotThree Srai i → transfer_row i place ≡ immediate_row i place
no_immediate (Lui a b) place h _ _ _ _ _ _ _ _ _ _ = absurd (h a b refl)
no_immediate (Auipc a b) place _ h _ _ _ _ _ _ _ _ _ = absurd (h a b refl)
no_immediate (Addi a b c) place _ _ h _ _ _ _ _ _ _ _ = absurd (h a b c refl)
no_immediate (Slti a b c) place _ _ _ h _ _ _ _ _ _ _ = absurd (h a b c refl)
no_immediate (Sltiu a b c) place _ _ _ _ h _ _ _ _ _ _ = absurd (h a b c refl)
no_immediate (Xori a b c) place _ _ _ _ _ h _ _ _ _ _ = absurd (h a b c refl)
no_immediate (Ori a b c) place _ _ _ _ _ _ h _ _ _ _ = absurd (h a b c refl)
no_immediate (Andi a b c) place _ _ _ _ _ _ _ h _ _ _ = absurd (h a b c refl)
no_immediate (Slli a b c) place _ _ _ _ _ _ _ _ h _ _ = absurd (h a b c refl)
no_immediate (Srli a b c) place _ _ _ _ _ _ _ _ _ h _ = absurd (h a b c refl)
no_immediate (Srai a b c) place _ _ _ _ _ _ _ _ _ _ h = absurd (h a b c refl)
no_immediate other place _ _ _ _ _ _ _ _ _ _ _ = refl

pub no_operation :
    (i : Instr) (place : ℕ) → IsNotThree Add i → IsNotThree Sub i → IsNotThree Sll i → IsNotThree Slt i → IsNotThree Sltu i → IsNotThree Xor i → IsNotThree Srl i → IsNotThree Sra i → IsNotThree Or i → IsNotThree And i → IsNotThree Mul i → IsNotThree Mulh i → IsNotThree Mulhsu i → IsNotThree Mulhu i → IsNotThree Div i → IsNotThree Divu i → IsNotThree Rem i → IsNotThree Remu i → immediate_row i place ≡ row_of i place
no_operation (Add a b c) place h _ _ _ _ _ _ _ _ _ _ _ _ _ _ _ _ _ = absurd (h a b c refl)
no_operation (Sub a b c) place _ h _ _ _ _ _ _ _ _ _ _ _ _ _ _ _ _ = absurd (h a b c refl)
no_operation (Sll a b c) place _ _ h _ _ _ _ _ _ _ _ _ _ _ _ _ _ _ = absurd (h a b c refl)
no_operation (Slt a b c) place _ _ _ h _ _ _ _ _ _ _ _ _ _ _ _ _ _ = absurd (h a b c refl)
no_operation (Sltu a b c) place _ _ _ _ h _ _ _ _ _ _ _ _ _ _ _ _ _ = absurd (h a b c refl)
no_operation (Xor a b c) place _ _ _ _ _ h _ _ _ _ _ _ _ _ _ _ _ _ = absurd (h a b c refl)
no_operation (Srl a b c) place _ _ _ _ _ _ h _ _ _ _ _ _ _ _ _ _ _ = absurd (h a b c refl)
no_operation (Sra a b c) place _ _ _ _ _ _ _ h _ _ _ _ _ _ _ _ _ _ = absurd (h a b c refl)
no_operation (Or a b c) place _ _ _ _ _ _ _ _ h _ _ _ _ _ _ _ _ _ = absurd (h a b c refl)
no_operation (And a b c) place _ _ _ _ _ _ _ _ _ h _ _ _ _ _ _ _ _ = absurd (h a b c refl)
no_operation (Mul a b c) place _ _ _ _ _ _ _ _ _ _ h _ _ _ _ _ _ _ = absurd (h a b c refl)
no_operation (Mulh a b c) place _ _ _ _ _ _ _ _ _ _ _ h _ _ _ _ _ _ = absurd (h a b c refl)
no_operation (Mulhsu a b c) place _ _ _ _ _ _ _ _ _ _ _ _ h _ _ _ _ _ = absurd (h a b c refl)
no_operation (Mulhu a b c) place _ _ _ _ _ _ _ _ _ _ _ _ _ h _ _ _ _ = absurd (h a b c refl)
no_operation (Div a b c) place _ _ _ _ _ _ _ _ _ _ _ _ _ _ h _ _ _ = absurd (h a b c refl)
no_operation (Divu a b c) place _ _ _ _ _ _ _ _ _ _ _ _ _ _ _ h _ _ = absurd (h a b c refl)
no_operation (Rem a b c) place _ _ _ _ _ _ _ _ _ _ _ _ _ _ _ _ h _ = absurd (h a b c refl)
no_operation (Remu a b c) place _ _ _ _ _ _ _ _ _ _ _ _ _ _ _ _ _ h = absurd (h a b c refl)
no_operation other place _ _ _ _ _ _ _ _ _ _ _ _ _ _ _ _ _ _ = refl
