-- How long pieces of code are at most.
use Rattle.std.proofs.Common.{ℕ, zero, suc, ◌*◌, ◌≤◌, Bool, true, false, List, [], ◌∷◌, ◌++◌, length, Option, Some, None, arith, length-append}
use Rattle.std.specs.Prelude.{if◌then◌else◌, ◌==◌, nat_lt}
use Rattle.rv_encode.specs.declared.instruction.Instr.{Instr}
use Rattle.rv_encode.specs.declared.instruction.Instr.TheVariants.{Lui, Lw, Sw, Add, Addi}
use Rattle.mid_code.specs.declared.operation.Arithmetic.{Arithmetic}
use Rattle.back_places.specs.declared.place.Place.{Place}
use Rattle.back_places.specs.declared.place.Place.TheVariants.{InRegister, InSlot, AsConstant}
use Rattle.back_places.specs.Places.{Way, from_stack, past_lent, no_way}
use Rattle.back_places.specs.Operands.{high_part, low_part, is_short, constant_code, slot_offset, at_slot, load_into, read_in, read_code, given_in, keep_code, move_code}
use Rattle.back_places.specs.Selection.{arithmetic_of, immediate_of, binary_code, short_code, compute_code}
use Rattle.back_places.specs.Blocks.{stack_code, raise_code}

pub either_length : (n : ℕ) (t : Bool) (a b : List Instr) → length a ≤ n → length b ≤ n → length (if t then a else b) ≤ n
either_length n true a b h k = h
either_length n false a b h k = k

pub constant_length : (to word : ℕ) → length (constant_code to word) ≤ 2
constant_length to word = either_length 2 (is_short word) (Addi to 0 (low_part word) ∷ []) (Lui to (high_part word) ∷ Addi to to (low_part word) ∷ []) (omega arith) (omega arith)

pub slot_length : (way : Way) (k : ℕ) (access : ℕ → ℕ → Instr) → length (at_slot way k access) ≤ 3
slot_length no_way k access = omega arith
slot_length (past_lent depth) k access = omega arith
slot_length (from_stack depth) k access =
    either_length 3 (nat_lt (slot_offset depth k) 2048) (access 2 (slot_offset depth k) ∷ [])
    (Lui 7 (high_part (slot_offset depth k)) ∷ Add 7 7 2 ∷ access 7 (low_part (slot_offset depth k)) ∷ []) (omega arith) (omega arith)

pub load_length : (way : Way) (to : ℕ) (p : Place) → length (load_into way to p) ≤ 3
load_length way to (InRegister r) = either_length 3 (r == to) [] (Addi to r 0 ∷ []) (omega arith) (omega arith)
load_length way to (InSlot k) = slot_length way k (Lw to)
load_length way to (AsConstant c) = let h = constant_length to c in omega (arith, h)

pub read_length : (way : Way) (scratch : ℕ) (p : Place) → length (read_code way scratch p) ≤ 3
read_length way scratch (InRegister r) = omega arith
read_length way scratch (InSlot k) = slot_length way k (Lw scratch)
read_length way scratch (AsConstant zero) = omega arith
read_length way scratch (AsConstant (suc c)) = let h = constant_length scratch (suc c) in omega (arith, h)

pub keep_length : (way : Way) (p : Place) → length (keep_code way p) ≤ 3
keep_length way (InRegister r) = omega arith
keep_length way (InSlot k) = slot_length way k (Sw 5)
keep_length way (AsConstant c) = omega arith

pub move_length : (way : Way) (from to : Place) → length (move_code way from to) ≤ 6
move_length way from (InRegister r) = let h = load_length way r from in omega (arith, h)
move_length way from (InSlot k) =
    let h = read_length way 5 from in
    let g = slot_length way k (Sw (read_in 5 from)) in
    omega (arith, h, g, length-append (read_code way 5 from) (at_slot way k (Sw (read_in 5 from))))
move_length way from (AsConstant c) = omega arith

-- from a register, which is read where it is
pub move_from_register : (way : Way) (r : ℕ) (to : Place) → length (move_code way (InRegister r) to) ≤ 3
move_from_register way r (InRegister q) = load_length way q (InRegister r)
move_from_register way r (InSlot k) = slot_length way k (Sw r)
move_from_register way r (AsConstant c) = omega arith

pub binary_length : (way : Way) (p q target : Place) (i : ℕ → ℕ → ℕ → Instr) → length (binary_code way p q target i) ≤ 10
binary_length way p q target i =
    let A = read_code way 5 p in
    let B = read_code way 6 q in
    let K = keep_code way target in
    let ins = i (given_in target) (read_in 5 p) (read_in 6 q) in
    omega (arith, read_length way 5 p, read_length way 6 q, keep_length way target, length-append A (B ++ (ins ∷ K)), length-append B (ins ∷ K))

short_length : (way : Way) (p target : Place) (w : ℕ) (o : Arithmetic) (i : Option Instr) → length (short_code way p w target o i) ≤ 10
short_length way p target w o None = binary_length way p (AsConstant w) target (arithmetic_of o)
short_length way p target w o (Some i) =
    omega (arith, read_length way 5 p, keep_length way target, length-append (read_code way 5 p) (i ∷ keep_code way target))

pub compute_length : (way : Way) (p q target : Place) (o : Arithmetic) → length (compute_code way p q target o) ≤ 10
compute_length way p (InRegister r) target o = binary_length way p (InRegister r) target (arithmetic_of o)
compute_length way p (InSlot k) target o = binary_length way p (InSlot k) target (arithmetic_of o)
compute_length way p (AsConstant w) target o = short_length way p target w o (immediate_of o (given_in target) (read_in 5 p) w)

pub stack_length : (word : ℕ) → length (stack_code word) ≤ 3
stack_length word =
    let h = constant_length 7 word in
    either_length 3 (is_short word) (Addi 2 2 (low_part word) ∷ []) (constant_code 7 word ++ Add 2 2 7 ∷ []) (omega arith)
    (omega (arith, h, length-append (constant_code 7 word) (Add 2 2 7 ∷ [])))

pub raise_length : (words : ℕ) → length (raise_code words) ≤ 3
raise_length words = let h = stack_length (4 * words) in either_length 3 (words == 0) [] (stack_code (4 * words)) (omega arith) h
