-- Arguments into the places where they are passed, and parameters from there: the first fourteen in registers, further ones in words
-- of the image.
use Rattle.std.specs.Prelude.{ℕ, zero, suc, ◌+◌, Bool, true, not, ◌==◌, ◌&&◌, nat_lt, List, [], ◌∷◌, ◌++◌, length, if◌then◌else◌}
use Rattle.rv_encode.specs.declared.instruction.Instr.{Instr}
use Rattle.rv_encode.specs.declared.instruction.Instr.TheVariants.{Lw, Sw}
use Rattle.back_places.specs.declared.place.Place.{Place}
use Rattle.back_places.specs.declared.place.Place.TheVariants.{InRegister, InSlot, AsConstant}
use Rattle.back_places.specs.Places.{Way, from_stack, argument_register}
use Rattle.back_places.specs.Operands.{at_word, at_slot, load_into, read_in, read_code}

-- whether a place is another one than a register
abbrev pub is_other : (register : ℕ) → Place → Bool
is_other r (InRegister q) = not (q == r)
is_other r (InSlot k) = true
is_other r (AsConstant w) = true

abbrev pub are_others : (register : ℕ) → List Place → Bool
are_others r [] = true
are_others r (p ∷ more) = is_other r p && are_others r more

-- whether arguments from a number on can be loaded one after the other: none is read from a register that was written for one before it
abbrev pub are_in_order : (i : ℕ) → List Place → Bool
are_in_order i [] = true
are_in_order i (p ∷ more) = are_others (argument_register i) more && are_in_order (i + 1) more

-- the word of an argument into its word of the image
abbrev pub argument_word_code : (words_at : ℕ) → (way : Way) → (i : ℕ) → Place → List Instr
argument_word_code words_at way i p = read_code way 5 p ++ at_word (words_at + i) (Sw (read_in 5 p))

-- an argument into its register, or its word
abbrev pub argument_code : (words_at : ℕ) → (way : Way) → (i : ℕ) → Place → List Instr
argument_code words_at way i p =
    if nat_lt i 14 then load_into way (argument_register i) p else argument_word_code words_at way i p

abbrev pub arguments_code : (words_at : ℕ) → (way : Way) → (i : ℕ) → List Place → List Instr
arguments_code words_at way i [] = []
arguments_code words_at way i (p ∷ more) = argument_code words_at way i p ++ arguments_code words_at way (i + 1) more

-- all arguments into words of the image, and then the first fourteen from there into registers
abbrev pub stored_code : (words_at : ℕ) → (way : Way) → (i : ℕ) → List Place → List Instr
stored_code words_at way i [] = []
stored_code words_at way i (p ∷ more) = argument_word_code words_at way i p ++ stored_code words_at way (i + 1) more

abbrev pub fetched_code : (words_at i : ℕ) → (count : ℕ) → List Instr
fetched_code words_at i zero = []
fetched_code words_at i (suc count) =
    (if nat_lt i 14 then at_word (words_at + i) (Lw (argument_register i)) else []) ++ fetched_code words_at (i + 1) count

-- arguments are passed
abbrev pub pass_code : (words_at : ℕ) → (way : Way) → List Place → List Instr
pass_code words_at way places =
    if are_in_order 0 places then arguments_code words_at way 0 places
    else stored_code words_at way 0 places ++ fetched_code words_at 0 (length places)

-- A parameter goes to its place: one that is passed in a register stays there or is stored into a slot; one that is not read goes nowhere.
abbrev pub parameter_code : (words_at i : ℕ) → Place → List Instr
parameter_code words_at i (InRegister r) = []
parameter_code words_at i (InSlot k) =
    if nat_lt i 14 then at_slot (from_stack 0) k (Sw (argument_register i))
    else at_word (words_at + i) (Lw 5) ++ at_slot (from_stack 0) k (Sw 5)
parameter_code words_at i (AsConstant w) = []

abbrev pub parameters_code : (words_at i : ℕ) → List Place → List Instr
parameters_code words_at i [] = []
parameters_code words_at i (p ∷ more) = parameter_code words_at i p ++ parameters_code words_at (i + 1) more
