-- What rows compute of two words, and how they compare them.
use Rattle.std.specs.Prelude.{ℕ, Bool, not, ◌==◌, nat_lt, bit_and, bit_or, bit_xor}
use Rattle.base.specs.Arithmetic.{sum32, difference32, less_signed, one_if_less_signed, one_if_less, shift_left, shift_right, shift_right_signed, product32, high_signed, quotient_signed, remainder_signed}
use Rattle.rv_machine.specs.Arithmetic.{high_mixed, high_unsigned, quotient, remainder}
use Rattle.rv_machine.specs.declared.machine.operators.Operator.{Operator}
use Rattle.rv_machine.specs.declared.machine.operators.Operator.TheVariants as operator
use Rattle.rv_machine.specs.declared.machine.operators.Comparison.{Comparison}
use Rattle.rv_machine.specs.declared.machine.operators.Comparison.TheVariants as comparison

abbrev pub operated : Operator → ℕ → ℕ → ℕ
operated operator.Add a b = sum32 a b
operated operator.Subtract a b = difference32 a b
operated operator.ShiftLeft a b = shift_left a b
operated operator.SetLessSigned a b = one_if_less_signed a b
operated operator.SetLess a b = one_if_less a b
operated operator.ExclusiveOr a b = bit_xor a b
operated operator.ShiftRight a b = shift_right a b
operated operator.ShiftRightSigned a b = shift_right_signed a b
operated operator.Or a b = bit_or a b
operated operator.And a b = bit_and a b
operated operator.Multiply a b = product32 a b
operated operator.HighSigned a b = high_signed a b
operated operator.HighMixed a b = high_mixed a b
operated operator.High a b = high_unsigned a b
operated operator.DivideSigned a b = quotient_signed a b
operated operator.Divide a b = quotient a b
operated operator.RemainderSigned a b = remainder_signed a b
operated operator.Remainder a b = remainder a b

abbrev pub compared : Comparison → ℕ → ℕ → Bool
compared comparison.Equal a b = a == b
compared comparison.Different a b = not (a == b)
compared comparison.LessSigned a b = less_signed a b
compared comparison.NotLessSigned a b = not (less_signed a b)
compared comparison.Less a b = nat_lt a b
compared comparison.NotLess a b = not (nat_lt a b)
