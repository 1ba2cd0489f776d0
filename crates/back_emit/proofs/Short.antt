-- What is read before a test is at most six instructions.
use Rattle.std.proofs.Common.{ℕ, zero, suc, ◌≤◌, Bool, true, false, List, [], ◌∷◌, length, arith, length-append}
use Rattle.std.specs.Prelude.{nat_lt, if◌then◌else◌}
use Rattle.rv_encode.specs.declared.instruction.Instr.{Instr}
use Rattle.rv_encode.specs.declared.instruction.Instr.TheVariants.{Lui, Lw, Addi, Add}
use Rattle.back_places.specs.declared.place.Place.{Place}
use Rattle.back_places.specs.declared.place.Place.TheVariants.{InRegister, InSlot, AsConstant}
use Rattle.back_places.specs.Places.{Way, from_stack, past_lent, no_way}
use Rattle.back_places.specs.Operands.{high_part, low_part, is_short, constant_code, slot_offset, at_slot, read_code}
use Rattle.back_emit.specs.PlacedCode.{read_placed, placed_tested}
use Rattle.back_emit.specs.declared.spots.Spot.{Spot}
use Rattle.back_emit.specs.Ways.{way_of}
use Rattle.back_allocation.specs.Places.{place_at}

either_short : (t : Bool) (a b : List Instr) → length a ≤ 3 → length b ≤ 3 → length (if t then a else b) ≤ 3
either_short true a b h k = h
either_short false a b h k = k

slot_short : (way : Way) (k : ℕ) (access : ℕ → ℕ → Instr) → length (at_slot way k access) ≤ 3
slot_short no_way k access = omega arith
slot_short (past_lent depth) k access = omega arith
slot_short (from_stack depth) k access =
    either_short (nat_lt (slot_offset depth k) 2048) (access 2 (slot_offset depth k) ∷ [])
    (Lui 7 (high_part (slot_offset depth k)) ∷ Add 7 7 2 ∷ access 7 (low_part (slot_offset depth k)) ∷ []) (omega arith) (omega arith)

constant_short : (to word : ℕ) → length (constant_code to word) ≤ 3
constant_short to word =
    either_short (is_short word) (Addi to 0 (low_part word) ∷ []) (Lui to (high_part word) ∷ Addi to to (low_part word) ∷ []) (omega arith) (omega arith)

read_short : (way : Way) (scratch : ℕ) (p : Place) → length (read_code way scratch p) ≤ 3
read_short way scratch (InRegister r) = omega arith
read_short way scratch (InSlot k) = slot_short way k (Lw scratch)
read_short way scratch (AsConstant zero) = omega arith
read_short way scratch (AsConstant (suc w)) = constant_short scratch (suc w)

pub tested_short : (places : List Place) (s : Spot) (first second : ℕ) → length (placed_tested places s first second) ≤ 6
tested_short places s first second =
    omega (
      arith,
      read_short (way_of s.way) 5 (place_at places first),
      read_short (way_of s.way) 6 (place_at places second),
      length-append (read_placed places s 5 first) (read_placed places s 6 second),
    )
