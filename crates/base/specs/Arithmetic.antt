-- Arithmetic on words of 32 bits, which are numbers below 2 ^ 32 (RISC-V Unprivileged ISA, 2.4, and the chapter on the M
-- extension).
use Rattle.std.specs.Prelude.{ℕ, ◌+◌, ◌-◌, ◌*◌, ◌/◌, ◌%◌, ◌^◌, Bool, if◌then◌else◌, ◌==◌, nat_lt, ℤ, pos, ◌*ℤ◌, int_lt, int_div, int_rem, unsigned_abs}
use Rattle.std.specs.Int.{cast_signed, w32, int_div_euclid, int_rem_euclid}

-- the number that a word stands for in two's complement
abbrev pub signed : ℕ → ℤ
signed word = cast_signed w32 word

-- the lowest 32 bits of a number: its remainder by 2 ^ 32 that is not negative
unfoldable pub low_word : ℤ → ℕ
low_word number = unsigned_abs (int_rem_euclid number (pos (2 ^ 32)))

-- a number divided by 2 ^ k and rounded down
abbrev pub shifted_down : ℤ → ℕ → ℤ
shifted_down number k = int_div_euclid number (pos (2 ^ k))

abbrev pub sum32 : ℕ → ℕ → ℕ
sum32 a b = (a + b) % 2 ^ 32

abbrev pub difference32 : ℕ → ℕ → ℕ
difference32 a b = (a + 2 ^ 32 - b) % 2 ^ 32

abbrev pub product32 : ℕ → ℕ → ℕ
product32 a b = (a * b) % 2 ^ 32

-- the upper half of the product of two signed numbers
unfoldable pub high_signed : ℕ → ℕ → ℕ
high_signed a b = low_word (shifted_down (signed a *ℤ signed b) 32)

-- Division rounds towards zero; by zero the quotient is all ones and the remainder the dividend.
-- The quotient of -2 ^ 31 by -1 is 2 ^ 31, whose lowest 32 bits are those of -2 ^ 31.
unfoldable pub quotient_signed : ℕ → ℕ → ℕ
quotient_signed a b = if b == 0 then 2 ^ 32 - 1 else low_word (int_div (signed a) (signed b))

unfoldable pub remainder_signed : ℕ → ℕ → ℕ
remainder_signed a b = if b == 0 then a else low_word (int_rem (signed a) (signed b))

-- shifts by the lowest 5 bits of the second word
abbrev pub shift_left : ℕ → ℕ → ℕ
shift_left a b = (a * 2 ^ (b % 32)) % 2 ^ 32

abbrev pub shift_right : ℕ → ℕ → ℕ
shift_right a b = a / 2 ^ (b % 32)

unfoldable pub shift_right_signed : ℕ → ℕ → ℕ
shift_right_signed a b = low_word (shifted_down (signed a) (b % 32))

-- whether one word is less than another as numbers in two's complement
abbrev pub less_signed : ℕ → ℕ → Bool
less_signed a b = int_lt (signed a) (signed b)

abbrev pub one_if_less_signed : ℕ → ℕ → ℕ
one_if_less_signed a b = if less_signed a b then 1 else 0

abbrev pub one_if_less : ℕ → ℕ → ℕ
one_if_less a b = if nat_lt a b then 1 else 0
