-- The pieces of code are instructions: their registers, immediates and offsets are in range.
use Rattle.std.proofs.Common.{◌≡◌, ℕ, zero, suc, ◌+◌, ◌-◌, ◌*◌, ◌%◌, ◌^◌, ◌<◌, ℤ, pos, negsuc, Bool, true, false, List, [], ◌∷◌, ◌++◌, length, Option, Some, None, refl, arith, ltb-true, leb-true}
use Rattle.std.specs.Prelude.{◌==◌, nat_lt, nat_le, slice_index, if◌then◌else◌}
use Rattle.std.proofs.lemmas.Int.{ints}
use Rattle.rv_encode.specs.declared.instruction.Instr.{Instr}
use Rattle.rv_encode.specs.declared.instruction.Instr.TheVariants.{Lui, Lw, Sw, Addi, Add, Slti, Sltiu, Xori, Ori, Andi}
use Rattle.rv_encode.specs.Encodes.{IsInstr}
use Rattle.mid_code.specs.declared.operation.Arithmetic.{Arithmetic}
use Rattle.mid_code.specs.declared.operation.Arithmetic.TheVariants as which
use Rattle.mid_code.specs.declared.operation.Comparison.{Comparison}
use Rattle.mid_code.specs.declared.operation.Comparison.TheVariants as comparison
use Rattle.back_places.specs.declared.place.Place.{Place}
use Rattle.back_places.specs.declared.place.Place.TheVariants.{InRegister, InSlot, AsConstant}
use Rattle.back_places.specs.Places.{Way, from_stack, past_lent, no_way, reachable, argument_register, value_registers}
use Rattle.back_places.specs.Operands.{high_part, low_part, is_short, constant_code, address_code, at_word, slot_offset, at_slot, load_into, read_in, read_code, given_in, keep_code, move_code}
use Rattle.back_places.specs.Selection.{arithmetic_of, with_short, immediate_of, binary_code, short_code, compute_code, branch_where, branch_unless, branch_offset, jump_offset, far_jump_code, jump_code, branch_code, low_12}
use Rattle.back_places.specs.Passing.{are_in_order, argument_word_code, argument_code, arguments_code, stored_code, fetched_code, pass_code, parameter_code, parameters_code}
use Rattle.back_places.specs.Blocks.{stack_code, raise_code, room_test_code, room_code, full_code, full_here_code, end_code}
use Rattle.back_places.specs.Facts.{IsPlace}

-- each of them is one
abbrev pub AreInstrs : List Instr → Type 0
AreInstrs [] = Unit {0}
AreInstrs (i ∷ more) = IsInstr i × AreInstrs more

pub both_are : (a b : List Instr) → AreInstrs a → AreInstrs b → AreInstrs (a ++ b)
both_are [] b h k = k
both_are (i ∷ a) b h k = (h.0, both_are a b h.1 k)

pub either_is : (t : Bool) (a b : List Instr) → (t ≡ true → AreInstrs a) → (t ≡ false → AreInstrs b) → AreInstrs (if t then a else b)
either_is true a b h k = h refl
either_is false a b h k = k refl

pub low_small : (word : ℕ) → low_part word < 2 ^ 12
low_small word = omega arith

pub high_small : (word : ℕ) → high_part word < 2 ^ 20
high_small word = omega arith

-- where a word can be read or given: a register of the machine, a word of the frame within reach, a constant
abbrev pub Within : (reach : ℕ) → Place → Type 0
Within reach (InRegister r) = r < 32
Within reach (InSlot k) = k < reach
Within reach (AsConstant w) = Unit {0}

pub place_within : (reach : ℕ) (p : Place) → IsPlace reach p → Within reach p
place_within reach (InRegister r) h = h.1
place_within reach (InSlot k) h = h.1
place_within reach (AsConstant w) h = tt

abbrev pub AllWithin : (reach : ℕ) → List Place → Type 0
AllWithin reach [] = Unit {0}
AllWithin reach (p ∷ more) = Within reach p × AllWithin reach more

-- words

pub constant_is : (to word : ℕ) → to < 32 → AreInstrs (constant_code to word)
constant_is to word h =
    either_is (is_short word) (Addi to 0 (low_part word) ∷ []) (Lui to (high_part word) ∷ Addi to to (low_part word) ∷ [])
    (λ e. ((h, omega arith, low_small word), tt)) (λ e. ((h, high_small word), ((h, h, low_small word), tt)))

pub address_is : (to position : ℕ) → to < 32 → AreInstrs (address_code to position)
address_is to position h = ((h, high_small (4 * position)), ((h, h, low_small (4 * position)), tt))

-- an access that is an instruction with each base register and each offset
abbrev pub IsAccess : ((base offset : ℕ) → Instr) → Type 0
IsAccess access = (base offset : ℕ) → base < 32 → offset < 2 ^ 12 → IsInstr (access base offset)

pub load_access : (to : ℕ) → to < 32 → IsAccess (Lw to)
load_access to h base offset b o = (h, b, o)

pub store_access : (from : ℕ) → from < 32 → IsAccess (Sw from)
store_access from h base offset b o = (h, b, o)

word_is : (position : ℕ) (access : (base offset : ℕ) → Instr) → IsAccess access → AreInstrs (at_word position access)
word_is position access h = ((omega arith, high_small (4 * position)), (h 7 (low_part (4 * position)) (omega arith) (low_small (4 * position)), tt))

lent_offset : (depth frame slot : ℕ) (t : Bool) → nat_le (4 * (depth + frame)) 2048 ≡ t → slot < (if t then frame else 0) → slot_offset depth slot < 2 ^ 12
lent_offset depth frame slot true e h = let fits = leb-true (4 * (depth + frame)) 2048 e in omega (arith, fits, h)
lent_offset depth frame slot false e h = absurd (omega (arith, h))

pub slot_is : (way : Way) (frame slot : ℕ) (access : (base offset : ℕ) → Instr) → IsAccess access → slot < reachable way frame → AreInstrs (at_slot way slot access)
slot_is (from_stack depth) frame slot access a h =
    either_is (nat_lt (slot_offset depth slot) 2048) (access 2 (slot_offset depth slot) ∷ [])
    (Lui 7 (high_part (slot_offset depth slot)) ∷ Add 7 7 2 ∷ access 7 (low_part (slot_offset depth slot)) ∷ [])
    (λ e. let near = ltb-true (slot_offset depth slot) 2048 e in (a 2 (slot_offset depth slot) (omega arith) (omega (arith, near)), tt))
    (λ e. ((omega arith, high_small (slot_offset depth slot)), ((omega arith, omega arith, omega arith), (a 7 (low_part (slot_offset depth slot)) (omega arith) (low_small (slot_offset depth slot)), tt))))
slot_is (past_lent depth) frame slot access a h =
    ((omega arith, omega arith, omega arith), (a 7 (slot_offset depth slot) (omega arith) (lent_offset depth frame slot (nat_le (4 * (depth + frame)) 2048) refl h), tt))
slot_is no_way frame slot access a h = tt

module _ (way : Way) (frame : ℕ) where
  pub load_is : (to : ℕ) (p : Place) → to < 32 → Within (reachable way frame) p → AreInstrs (load_into way to p)
  load_is to (InRegister r) h k = either_is (r == to) [] (Addi to r 0 ∷ []) (λ e. tt) (λ e. ((h, k, omega arith), tt))
  load_is to (InSlot s) h k = slot_is way frame s (Lw to) (load_access to h) k
  load_is to (AsConstant w) h k = constant_is to w h

  pub read_in_small : (scratch : ℕ) (p : Place) → scratch < 32 → Within (reachable way frame) p → read_in scratch p < 32
  read_in_small scratch (InRegister r) h k = k
  read_in_small scratch (InSlot s) h k = h
  read_in_small scratch (AsConstant zero) h k = omega arith
  read_in_small scratch (AsConstant (suc w)) h k = h

  pub read_is : (scratch : ℕ) (p : Place) → scratch < 32 → Within (reachable way frame) p → AreInstrs (read_code way scratch p)
  read_is scratch (InRegister r) h k = tt
  read_is scratch (InSlot s) h k = slot_is way frame s (Lw scratch) (load_access scratch h) k
  read_is scratch (AsConstant zero) h k = tt
  read_is scratch (AsConstant (suc w)) h k = constant_is scratch (suc w) h

  pub given_small : (p : Place) → Within (reachable way frame) p → given_in p < 32
  given_small (InRegister r) h = h
  given_small (InSlot s) h = omega arith
  given_small (AsConstant w) h = omega arith

  pub keep_is : (p : Place) → Within (reachable way frame) p → AreInstrs (keep_code way p)
  keep_is (InRegister r) h = tt
  keep_is (InSlot s) h = slot_is way frame s (Sw 5) (store_access 5 (omega arith)) h
  keep_is (AsConstant w) h = tt

  pub move_is : (from to : Place) → Within (reachable way frame) from → Within (reachable way frame) to → AreInstrs (move_code way from to)
  move_is from (InRegister r) h k = load_is r from k h
  move_is from (InSlot s) h k =
      both_are (read_code way 5 from) (at_slot way s (Sw (read_in 5 from))) (read_is 5 from (omega arith) h)
      (slot_is way frame s (Sw (read_in 5 from)) (store_access (read_in 5 from) (read_in_small 5 from (omega arith) h)) k)
  move_is from (AsConstant w) h k = tt

-- arithmetic

pub arithmetic_is : (op : Arithmetic) (to a b : ℕ) → to < 32 → a < 32 → b < 32 → IsInstr (arithmetic_of op to a b)
arithmetic_is which.Add to a b h k m = (h, k, m)
arithmetic_is which.Subtract to a b h k m = (h, k, m)
arithmetic_is which.Multiply to a b h k m = (h, k, m)
arithmetic_is which.MultiplyHigh to a b h k m = (h, k, m)
arithmetic_is which.Divide to a b h k m = (h, k, m)
arithmetic_is which.Remainder to a b h k m = (h, k, m)
arithmetic_is which.And to a b h k m = (h, k, m)
arithmetic_is which.Or to a b h k m = (h, k, m)
arithmetic_is which.ExclusiveOr to a b h k m = (h, k, m)
arithmetic_is which.ShiftLeft to a b h k m = (h, k, m)
arithmetic_is which.ShiftRight to a b h k m = (h, k, m)
arithmetic_is which.ShiftRightSigned to a b h k m = (h, k, m)
arithmetic_is which.Less to a b h k m = (h, k, m)
arithmetic_is which.LessUnsigned to a b h k m = (h, k, m)

-- an instruction, where there is one
abbrev pub IsMaybe : Option Instr → Type 0
IsMaybe None = Unit {0}
IsMaybe (Some i) = IsInstr i

short_is : (make : ℕ → Instr) (word : ℕ) → ((n : ℕ) → n < 2 ^ 12 → IsInstr (make n)) → IsMaybe (with_short make word)
short_is make word h = by (is_short word)
  where
    by : (t : Bool) → IsMaybe (if t then Some (make (low_part word)) else None)
    by true = h (low_part word) (low_small word)
    by false = tt

shift_small : (word : ℕ) → word % 32 < 32
shift_small word = omega arith

immediate_is : (op : Arithmetic) (to a word : ℕ) → to < 32 → a < 32 → IsMaybe (immediate_of op to a word)
immediate_is which.Add to a w h k = short_is (Addi to a) w (λ n s. (h, k, s))
immediate_is which.Subtract to a w h k = short_is (Addi to a) ((2 ^ 32 - w) % 2 ^ 32) (λ n s. (h, k, s))
immediate_is which.Multiply to a w h k = tt
immediate_is which.MultiplyHigh to a w h k = tt
immediate_is which.Divide to a w h k = tt
immediate_is which.Remainder to a w h k = tt
immediate_is which.And to a w h k = short_is (Andi to a) w (λ n s. (h, k, s))
immediate_is which.Or to a w h k = short_is (Ori to a) w (λ n s. (h, k, s))
immediate_is which.ExclusiveOr to a w h k = short_is (Xori to a) w (λ n s. (h, k, s))
immediate_is which.ShiftLeft to a w h k = (h, k, shift_small w)
immediate_is which.ShiftRight to a w h k = (h, k, shift_small w)
immediate_is which.ShiftRightSigned to a w h k = (h, k, shift_small w)
immediate_is which.Less to a w h k = short_is (Slti to a) w (λ n s. (h, k, s))
immediate_is which.LessUnsigned to a w h k = short_is (Sltiu to a) w (λ n s. (h, k, s))

module _ (way : Way) (frame : ℕ) where
  binary_is :
      (first second target : Place) (op : Arithmetic) → Within (reachable way frame) first → Within (reachable way frame) second
      → Within (reachable way frame) target → AreInstrs (binary_code way first second target (arithmetic_of op))
  binary_is first second target op h k m =
      both_are (read_code way 5 first)
      (read_code way 6 second ++ (arithmetic_of op (given_in target) (read_in 5 first) (read_in 6 second) ∷ keep_code way target)) (read_is way frame 5 first (omega arith) h)
      (both_are (read_code way 6 second) (arithmetic_of op (given_in target) (read_in 5 first) (read_in 6 second) ∷ keep_code way target) (read_is way frame 6 second (omega arith) k) (
        arithmetic_is op (given_in target) (read_in 5 first) (read_in 6 second) (given_small way frame target m) (read_in_small way frame 5 first (omega arith) h)
            (read_in_small way frame 6 second (omega arith) k),
        keep_is way frame target m,
      ))

  short_code_is :
      (first : Place) (word : ℕ) (target : Place) (op : Arithmetic) (o : Option Instr) → IsMaybe o → Within (reachable way frame) first
      → Within (reachable way frame) target → AreInstrs (short_code way first word target op o)
  short_code_is first word target op None i h m = binary_is first (AsConstant word) target op h tt m
  short_code_is first word target op (Some x) i h m =
      both_are (read_code way 5 first) (x ∷ keep_code way target) (read_is way frame 5 first (omega arith) h) (i, keep_is way frame target m)

  pub compute_is :
      (first second target : Place) (op : Arithmetic) → Within (reachable way frame) first → Within (reachable way frame) second
      → Within (reachable way frame) target → AreInstrs (compute_code way first second target op)
  compute_is first (InRegister r) target op h k m = binary_is first (InRegister r) target op h k m
  compute_is first (InSlot s) target op h k m = binary_is first (InSlot s) target op h k m
  compute_is first (AsConstant w) target op h k m =
      short_code_is first w target op (immediate_of op (given_in target) (read_in 5 first) w)
      (immediate_is op (given_in target) (read_in 5 first) w (given_small way frame target m) (read_in_small way frame 5 first (omega arith) h)) h m

-- branches and jumps

branch_even : (from to : ℕ) → branch_offset from to % 2 ≡ 0
branch_even from to = omega arith

jump_even : (from to : ℕ) → jump_offset from to % 2 ≡ 0
jump_even from to = omega arith

unless_is : (c : Comparison) (a b offset : ℕ) → a < 32 → b < 32 → offset < 2 ^ 13 → offset % 2 ≡ 0 → IsInstr (branch_unless c a b offset)
unless_is comparison.Equal a b offset h k s e = (h, k, (s, e))
unless_is comparison.Different a b offset h k s e = (h, k, (s, e))
unless_is comparison.Less a b offset h k s e = (h, k, (s, e))
unless_is comparison.AtLeast a b offset h k s e = (h, k, (s, e))
unless_is comparison.LessUnsigned a b offset h k s e = (h, k, (s, e))
unless_is comparison.AtLeastUnsigned a b offset h k s e = (h, k, (s, e))

where_is : (c : Comparison) (a b offset : ℕ) → a < 32 → b < 32 → offset < 2 ^ 13 → offset % 2 ≡ 0 → IsInstr (branch_where c a b offset)
where_is comparison.Equal a b offset h k s e = (h, k, (s, e))
where_is comparison.Different a b offset h k s e = (h, k, (s, e))
where_is comparison.Less a b offset h k s e = (h, k, (s, e))
where_is comparison.AtLeast a b offset h k s e = (h, k, (s, e))
where_is comparison.LessUnsigned a b offset h k s e = (h, k, (s, e))
where_is comparison.AtLeastUnsigned a b offset h k s e = (h, k, (s, e))

pub far_jump_is : (link from to : ℕ) → link < 32 → AreInstrs (far_jump_code link from to)
far_jump_is link from to h = ((omega arith, high_small _), ((h, omega arith, low_small _), tt))

pub jump_is : (near : Bool) (link from to : ℕ) → link < 32 → AreInstrs (jump_code near link from to)
jump_is true link from to h = ((h, (omega arith, jump_even from to)), tt)
jump_is false link from to h = far_jump_is link from to h

pub branch_is : (near : Bool) (c : Comparison) (a b from to : ℕ) → a < 32 → b < 32 → AreInstrs (branch_code near c a b from to)
branch_is true c a b from to h k = (unless_is c a b (branch_offset from to) h k (omega arith) (branch_even from to), tt)
branch_is false c a b from to h k = (where_is c a b 12 h k (omega arith) refl, far_jump_is 0 (from + 1) to (omega arith))

pub low_12_small : (offset : ℤ) → low_12 offset < 2 ^ 12
low_12_small (pos n) = omega (arith, ints)
low_12_small (negsuc n) = omega (arith, ints)

-- arguments and parameters

abbrev AllRegisters : List ℕ → Type 0
AllRegisters [] = Unit {0}
AllRegisters (r ∷ more) = (r < 32) × AllRegisters more

small_at : (rs : List ℕ) (i : ℕ) → AllRegisters rs → slice_index rs i < 32
small_at [] i h = omega arith
small_at (r ∷ rs) zero h = h.0
small_at (r ∷ rs) (suc i) h = small_at rs i h.1

pub argument_small : (i : ℕ) → argument_register i < 32
argument_small i =
    small_at value_registers i
    (omega arith, (omega arith, (omega arith, (omega arith, (omega arith, (omega arith, (omega arith, (omega arith, (omega arith, (omega arith, (omega arith, (omega arith, (omega arith, (omega arith, tt))))))))))))))

module _ (words_at : ℕ) (way : Way) (frame : ℕ) where
  argument_word_is : (i : ℕ) (p : Place) → Within (reachable way frame) p → AreInstrs (argument_word_code words_at way i p)
  argument_word_is i p h =
      both_are (read_code way 5 p) (at_word (words_at + i) (Sw (read_in 5 p))) (read_is way frame 5 p (omega arith) h)
      (word_is (words_at + i) (Sw (read_in 5 p)) (store_access (read_in 5 p) (read_in_small way frame 5 p (omega arith) h)))

  argument_is : (i : ℕ) (p : Place) → Within (reachable way frame) p → AreInstrs (argument_code words_at way i p)
  argument_is i p h =
      either_is (nat_lt i 14) (load_into way (argument_register i) p) (argument_word_code words_at way i p)
      (λ e. load_is way frame (argument_register i) p (argument_small i) h) (λ e. argument_word_is i p h)

  arguments_are : (i : ℕ) (ps : List Place) → AllWithin (reachable way frame) ps → AreInstrs (arguments_code words_at way i ps)
  arguments_are i [] h = tt
  arguments_are i (p ∷ ps) h =
      both_are (argument_code words_at way i p) (arguments_code words_at way (i + 1) ps) (argument_is i p h.0) (arguments_are (i + 1) ps h.1)

  stored_are : (i : ℕ) (ps : List Place) → AllWithin (reachable way frame) ps → AreInstrs (stored_code words_at way i ps)
  stored_are i [] h = tt
  stored_are i (p ∷ ps) h =
      both_are (argument_word_code words_at way i p) (stored_code words_at way (i + 1) ps) (argument_word_is i p h.0) (stored_are (i + 1) ps h.1)

  fetched_are : (i count : ℕ) → AreInstrs (fetched_code words_at i count)
  fetched_are i zero = tt
  fetched_are i (suc count) =
      both_are (if nat_lt i 14 then at_word (words_at + i) (Lw (argument_register i)) else []) (fetched_code words_at (i + 1) count)
      (either_is (nat_lt i 14) (at_word (words_at + i) (Lw (argument_register i))) []
      (λ e. word_is (words_at + i) (Lw (argument_register i)) (load_access (argument_register i) (argument_small i))) (λ e. tt))
      (fetched_are (i + 1) count)

  pub pass_is : (ps : List Place) → AllWithin (reachable way frame) ps → AreInstrs (pass_code words_at way ps)
  pass_is ps h =
      either_is (are_in_order 0 ps) (arguments_code words_at way 0 ps) (stored_code words_at way 0 ps ++ fetched_code words_at 0 (length ps))
      (λ e. arguments_are 0 ps h)
      (λ e. both_are (stored_code words_at way 0 ps) (fetched_code words_at 0 (length ps)) (stored_are 0 ps h) (fetched_are 0 (length ps)))

module _ (words_at frame : ℕ) where
  parameter_is : (i : ℕ) (p : Place) → Within frame p → AreInstrs (parameter_code words_at i p)
  parameter_is i (InRegister r) h = tt
  parameter_is i (InSlot k) h =
      either_is (nat_lt i 14) (at_slot (from_stack 0) k (Sw (argument_register i))) (at_word (words_at + i) (Lw 5) ++ at_slot (from_stack 0) k (Sw 5))
      (λ e. slot_is (from_stack 0) frame k (Sw (argument_register i)) (store_access (argument_register i) (argument_small i)) h)
      (λ e.
      both_are (at_word (words_at + i) (Lw 5)) (at_slot (from_stack 0) k (Sw 5)) (word_is (words_at + i) (Lw 5) (load_access 5 (omega arith)))
      (slot_is (from_stack 0) frame k (Sw 5) (store_access 5 (omega arith)) h))
  parameter_is i (AsConstant w) h = tt

  pub parameters_are : (i : ℕ) (ps : List Place) → AllWithin frame ps → AreInstrs (parameters_code words_at i ps)
  parameters_are i [] h = tt
  parameters_are i (p ∷ ps) h = both_are (parameter_code words_at i p) (parameters_code words_at (i + 1) ps) (parameter_is i p h.0) (parameters_are (i + 1) ps h.1)

-- blocks

pub stack_is : (word : ℕ) → AreInstrs (stack_code word)
stack_is word =
    either_is (is_short word) (Addi 2 2 (low_part word) ∷ []) (constant_code 7 word ++ Add 2 2 7 ∷ []) (λ e. ((omega arith, omega arith, low_small word), tt))
    (λ e. both_are (constant_code 7 word) (Add 2 2 7 ∷ []) (constant_is 7 word (omega arith)) ((omega arith, omega arith, omega arith), tt))

pub raise_is : (words : ℕ) → AreInstrs (raise_code words)
raise_is words = either_is (words == 0) [] (stack_code (4 * words)) (λ e. tt) (λ e. stack_is (4 * words))

room_test_is : (full at words : ℕ) → AreInstrs (room_test_code full at words)
room_test_is full at words =
    ((omega arith, omega arith, (omega arith, refl)), ((omega arith, high_small words), ((omega arith, omega arith, low_small words), far_jump_is 0 (at + 3) full (omega arith))))

pub room_is : (full at words : ℕ) → AreInstrs (room_code full at words)
room_is full at words =
    either_is (words == 0) [] (stack_code (2 ^ 32 - 4 * words) ++ room_test_code full (at + length (stack_code (2 ^ 32 - 4 * words))) words) (λ e. tt)
    (λ e.
    both_are (stack_code (2 ^ 32 - 4 * words)) (room_test_code full (at + length (stack_code (2 ^ 32 - 4 * words))) words) (stack_is (2 ^ 32 - 4 * words))
    (room_test_is full (at + length (stack_code (2 ^ 32 - 4 * words))) words))

pub full_is : AreInstrs full_code
full_is =
    ((omega arith, omega arith, omega arith), ((omega arith, omega arith, omega arith), ((omega arith, omega arith, omega arith), ((omega arith, omega arith, omega arith), ((omega arith, omega arith, omega arith), (tt, tt))))))

pub full_here_is : AreInstrs full_here_code
full_here_is = ((omega arith, omega arith, omega arith), ((omega arith, omega arith, omega arith), ((omega arith, omega arith, omega arith), (tt, tt))))

pub end_is : AreInstrs end_code
end_is = ((omega arith, omega arith, omega arith), ((omega arith, omega arith, omega arith), (tt, tt)))
