-- What arithmetic and comparisons are on two integers.
use Rattle.std.specs.Prelude.{ℤ, ◌+ℤ◌, ◌-ℤ◌, ◌*ℤ◌, int_lt, int_le, Bool, not}
use Rattle.lang_meaning.specs.Values.{int_equal}
use Rattle.lang_meaning.specs.State.{State}
use Rattle.lang_meaning.specs.Primitives.{Answer, integer_result, division, floor_quotient, floor_remainder}
use Rattle.eval_primitives.specs.declared.group.Arithmetic.{Arithmetic}
use Rattle.eval_primitives.specs.declared.group.Arithmetic.TheVariants.{Add, Subtract, Multiply, Divide, Modulo}
use Rattle.eval_primitives.specs.declared.group.Comparison.{Comparison}
use Rattle.eval_primitives.specs.declared.group.Comparison.TheVariants.{Equal, NotEqual, Less, AtMost, Greater, AtLeast}

abbrev pub calculated : Arithmetic → ℤ → ℤ → State → Answer
calculated Add a b = integer_result (a +ℤ b)
calculated Subtract a b = integer_result (a -ℤ b)
calculated Multiply a b = integer_result (a *ℤ b)
calculated Divide a b = division floor_quotient a b
calculated Modulo a b = division floor_remainder a b

abbrev pub compared : Comparison → ℤ → ℤ → Bool
compared Equal a b = int_equal a b
compared NotEqual a b = not (int_equal a b)
compared Less a b = int_lt a b
compared AtMost a b = int_le a b
compared Greater a b = int_lt b a
compared AtLeast a b = int_le b a
