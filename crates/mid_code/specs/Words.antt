-- What operations compute on words, which are numbers below 2 ^ 32.
use Rattle.std.specs.Prelude.{ℕ, Bool, not, ◌==◌, nat_lt, ℤ, pos, ◌+ℤ◌, bit_and, bit_or, bit_xor}
use Rattle.base.specs.Arithmetic.{low_word, sum32, difference32, product32, high_signed, quotient_signed, remainder_signed, shift_left, shift_right, shift_right_signed, less_signed, one_if_less_signed, one_if_less}
use Rattle.mid_code.specs.declared.operation.Arithmetic.{Arithmetic}
use Rattle.mid_code.specs.declared.operation.Arithmetic.TheVariants as which
use Rattle.mid_code.specs.declared.operation.Comparison.{Comparison}
use Rattle.mid_code.specs.declared.operation.Comparison.TheVariants as comparison

-- what is computed of two words
abbrev pub computed : Arithmetic → ℕ → ℕ → ℕ
computed which.Add a b = sum32 a b
computed which.Subtract a b = difference32 a b
computed which.Multiply a b = product32 a b
computed which.MultiplyHigh a b = high_signed a b
computed which.Divide a b = quotient_signed a b
computed which.Remainder a b = remainder_signed a b
computed which.And a b = bit_and a b
computed which.Or a b = bit_or a b
computed which.ExclusiveOr a b = bit_xor a b
computed which.ShiftLeft a b = shift_left a b
computed which.ShiftRight a b = shift_right a b
computed which.ShiftRightSigned a b = shift_right_signed a b
computed which.Less a b = one_if_less_signed a b
computed which.LessUnsigned a b = one_if_less a b

-- whether two words compare so
abbrev pub compares : Comparison → ℕ → ℕ → Bool
compares comparison.Equal a b = a == b
compares comparison.Different a b = not (a == b)
compares comparison.Less a b = less_signed a b
compares comparison.AtLeast a b = not (less_signed a b)
compares comparison.LessUnsigned a b = nat_lt a b
compares comparison.AtLeastUnsigned a b = not (nat_lt a b)

-- the address at an offset in bytes from a word
abbrev pub address : ℕ → ℤ → ℕ
address base offset = low_word (pos base +ℤ offset)
