-- Words from and to their places: constants, words of the frame and of the image, operands and results.
use Rattle.std.specs.Prelude.{ℕ, zero, suc, ◌+◌, ◌*◌, ◌/◌, ◌%◌, ◌^◌, Bool, ◌==◌, ◌||◌, nat_lt, nat_le, List, [], ◌∷◌, ◌++◌, if◌then◌else◌}
use Rattle.rv_encode.specs.declared.instruction.Instr.{Instr}
use Rattle.rv_encode.specs.declared.instruction.Instr.TheVariants.{Lui, Lw, Sw, Addi, Add}
use Rattle.back_places.specs.declared.place.Place.{Place}
use Rattle.back_places.specs.declared.place.Place.TheVariants.{InRegister, InSlot, AsConstant}
use Rattle.back_places.specs.Places.{Way, from_stack, past_lent, no_way}

-- A word in two parts: the upper 20 bits, and the lower 12 as a signed number. Their sum is the word.
abbrev pub high_part : ℕ → ℕ
high_part word = (word + 2048) / 4096 % 2 ^ 20

abbrev pub low_part : ℕ → ℕ
low_part word = word % 4096

-- whether a word is a signed number of 12 bits
abbrev pub is_short : ℕ → Bool
is_short word = nat_lt word 2048 || nat_le 4294965248 word

-- a constant into a register: a short one in one instruction
abbrev pub constant_code : (to word : ℕ) → List Instr
constant_code to word =
    if is_short word then Addi to 0 (low_part word) ∷ []
    else Lui to (high_part word) ∷ Addi to to (low_part word) ∷ []

-- the address of a word of the image into a register, always in two instructions
abbrev pub address_code : (to position : ℕ) → List Instr
address_code to position = Lui to (high_part (4 * position)) ∷ Addi to to (low_part (4 * position)) ∷ []

-- An access of a word of the image: an instruction with a base register and an offset. Register 7 is there for addresses.
abbrev pub at_word : (position : ℕ) → (access : (base offset : ℕ) → Instr) → List Instr
at_word position access = Lui 7 (high_part (4 * position)) ∷ access 7 (low_part (4 * position)) ∷ []

-- the offset from the stack pointer of a word of the frame, with so many words of control records in front
abbrev pub slot_offset : (depth slot : ℕ) → ℕ
slot_offset depth slot = 4 * (depth + slot)

-- An access of a word of the frame: far ones by an address in register 7. Past a block that was lent, register 7 gets the stack pointer of
-- before from the second word of its header.
abbrev pub at_slot : (way : Way) → (slot : ℕ) → (access : (base offset : ℕ) → Instr) → List Instr
at_slot (from_stack depth) slot access =
    if nat_lt (slot_offset depth slot) 2048 then access 2 (slot_offset depth slot) ∷ []
    else Lui 7 (high_part (slot_offset depth slot)) ∷ Add 7 7 2 ∷ access 7 (low_part (slot_offset depth slot)) ∷ []
at_slot (past_lent depth) slot access = Lw 7 2 4 ∷ access 7 (slot_offset depth slot) ∷ []
at_slot no_way slot access = []

-- a value into a register
abbrev pub load_into : (way : Way) → (to : ℕ) → Place → List Instr
load_into way to (InRegister r) = if r == to then [] else Addi to r 0 ∷ []
load_into way to (InSlot k) = at_slot way k (Lw to)
load_into way to (AsConstant w) = constant_code to w

-- the register in which an operand is read, and the code before: a scratch register, where the value is in none
abbrev pub read_in : (scratch : ℕ) → Place → ℕ
read_in scratch (InRegister r) = r
read_in scratch (InSlot k) = scratch
read_in scratch (AsConstant zero) = 0
read_in scratch (AsConstant (suc w)) = scratch

abbrev pub read_code : (way : Way) → (scratch : ℕ) → Place → List Instr
read_code way scratch (InRegister r) = []
read_code way scratch (InSlot k) = at_slot way k (Lw scratch)
read_code way scratch (AsConstant zero) = []
read_code way scratch (AsConstant (suc w)) = constant_code scratch (suc w)

-- the register that an instruction gives a word to, and the code behind that brings it to its place
abbrev pub given_in : Place → ℕ
given_in (InRegister r) = r
given_in (InSlot k) = 5
given_in (AsConstant w) = 0

abbrev pub keep_code : (way : Way) → Place → List Instr
keep_code way (InRegister r) = []
keep_code way (InSlot k) = at_slot way k (Sw 5)
keep_code way (AsConstant w) = []

-- a value from a place to another; to a constant nothing has to be done
abbrev pub move_code : (way : Way) → (from to : Place) → List Instr
move_code way from (InRegister r) = load_into way r from
move_code way from (InSlot k) = read_code way 5 from ++ at_slot way k (Sw (read_in 5 from))
move_code way from (AsConstant w) = []
