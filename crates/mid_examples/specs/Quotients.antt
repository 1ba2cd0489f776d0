-- Quotients, rounded towards minus infinity, and remainders, which have the divisor's sign.
use Rattle.std.specs.Prelude.{◌-◌, ◌^◌, [], ◌∷◌}
use Rattle.lang_meaning.specs.declared.primitive.Primitive.TheVariants.{Divide, Modulo}
use Rattle.lang_meaning.specs.Objects.{division_by_zero_class, integer_overflow_class}
use Rattle.mid_examples.specs.Addresses.{number, minus}
use Rattle.mid_examples.specs.Rows.{gives, signals, RunsAlways, FitsCondition, NeedsIntegers}
use Rattle.mid_examples.specs.Sums.{greatest, least}

pub record DivideRows : Type 0 where
  -- 7 by 2 with each signs
  pub positive : RunsAlways Divide (number 7 ∷ number 2 ∷ []) (gives (number 3))
  pub first_negative : RunsAlways Divide (minus 7 ∷ number 2 ∷ []) (gives (minus 4))
  pub second_negative : RunsAlways Divide (number 7 ∷ minus 2 ∷ []) (gives (minus 4))
  pub both_negative : RunsAlways Divide (minus 7 ∷ minus 2 ∷ []) (gives (number 3))
  -- without a remainder
  pub whole : RunsAlways Divide (number 6 ∷ number 2 ∷ []) (gives (number 3))
  pub whole_first_negative : RunsAlways Divide (minus 6 ∷ number 2 ∷ []) (gives (minus 3))
  pub whole_second_negative : RunsAlways Divide (number 6 ∷ minus 2 ∷ []) (gives (minus 3))
  pub whole_both_negative : RunsAlways Divide (minus 6 ∷ minus 2 ∷ []) (gives (number 3))
  pub of_zero : RunsAlways Divide (number 0 ∷ minus 5 ∷ []) (gives (number 0))
  -- a quotient between -1 and 1
  pub below_one : RunsAlways Divide (number 1 ∷ number 2 ∷ []) (gives (number 0))
  pub below_zero : RunsAlways Divide (minus 1 ∷ number 2 ∷ []) (gives (minus 1))
  pub below_zero_by_negative : RunsAlways Divide (number 1 ∷ minus 2 ∷ []) (gives (minus 1))
  pub above_zero_by_negative : RunsAlways Divide (minus 1 ∷ minus 2 ∷ []) (gives (number 0))
  -- by the ends of the range
  pub by_greatest : RunsAlways Divide (minus 1 ∷ greatest ∷ []) (gives (minus 1))
  pub by_least : RunsAlways Divide (number 1 ∷ least ∷ []) (gives (minus 1))
  pub least_by_greatest : RunsAlways Divide (least ∷ greatest ∷ []) (gives (minus 2))
  pub greatest_by_least : RunsAlways Divide (greatest ∷ least ∷ []) (gives (minus 1))
  pub least_by_least : RunsAlways Divide (least ∷ least ∷ []) (gives (number 1))
  -- of the ends of the range
  pub greatest_kept : RunsAlways Divide (greatest ∷ number 1 ∷ []) (gives greatest)
  pub least_kept : RunsAlways Divide (least ∷ number 1 ∷ []) (gives least)
  pub greatest_turned : RunsAlways Divide (greatest ∷ minus 1 ∷ []) (gives (minus (2 ^ 29 - 1)))
  pub to_greatest : RunsAlways Divide (minus (2 ^ 29 - 1) ∷ minus 1 ∷ []) (gives greatest)
  pub half_of_least : RunsAlways Divide (least ∷ minus 2 ∷ []) (gives (number (2 ^ 28)))
  -- one beyond, which no other quotient is
  pub least_turned : RunsAlways Divide (least ∷ minus 1 ∷ []) (signals integer_overflow_class)
  pub overflow_fits : FitsCondition Divide (least ∷ minus 1 ∷ []) integer_overflow_class
  -- by zero
  pub by_zero : RunsAlways Divide (number 5 ∷ number 0 ∷ []) (signals division_by_zero_class)
  pub zero_by_zero : RunsAlways Divide (number 0 ∷ number 0 ∷ []) (signals division_by_zero_class)
  pub least_by_zero : RunsAlways Divide (least ∷ number 0 ∷ []) (signals division_by_zero_class)
  pub by_zero_fits : FitsCondition Divide (number 5 ∷ number 0 ∷ []) division_by_zero_class
  pub integers : NeedsIntegers Divide

pub record ModuloRows : Type 0 where
  -- 7 by 2 with each signs
  pub positive : RunsAlways Modulo (number 7 ∷ number 2 ∷ []) (gives (number 1))
  pub first_negative : RunsAlways Modulo (minus 7 ∷ number 2 ∷ []) (gives (number 1))
  pub second_negative : RunsAlways Modulo (number 7 ∷ minus 2 ∷ []) (gives (minus 1))
  pub both_negative : RunsAlways Modulo (minus 7 ∷ minus 2 ∷ []) (gives (minus 1))
  -- 6 by 4, where the quotient and the remainder are not as great
  pub six_by_four : RunsAlways Modulo (number 6 ∷ number 4 ∷ []) (gives (number 2))
  pub minus_six_by_four : RunsAlways Modulo (minus 6 ∷ number 4 ∷ []) (gives (number 2))
  pub six_by_minus_four : RunsAlways Modulo (number 6 ∷ minus 4 ∷ []) (gives (minus 2))
  -- 7 by 5, where one is added: 3 and -3
  pub minus_seven_by_five : RunsAlways Modulo (minus 7 ∷ number 5 ∷ []) (gives (number 3))
  pub seven_by_minus_five : RunsAlways Modulo (number 7 ∷ minus 5 ∷ []) (gives (minus 3))
  -- without a remainder
  pub whole : RunsAlways Modulo (minus 6 ∷ number 2 ∷ []) (gives (number 0))
  pub whole_by_negative : RunsAlways Modulo (number 6 ∷ minus 2 ∷ []) (gives (number 0))
  pub of_zero : RunsAlways Modulo (number 0 ∷ minus 5 ∷ []) (gives (number 0))
  pub by_one : RunsAlways Modulo (greatest ∷ number 1 ∷ []) (gives (number 0))
  -- -2 ^ 29 by -1, whose quotient is out of range
  pub least_by_minus_one : RunsAlways Modulo (least ∷ minus 1 ∷ []) (gives (number 0))
  -- by the ends of the range
  pub by_greatest : RunsAlways Modulo (minus 1 ∷ greatest ∷ []) (gives (number (2 ^ 29 - 2)))
  pub by_least : RunsAlways Modulo (number 1 ∷ least ∷ []) (gives (minus (2 ^ 29 - 1)))
  pub greatest_by_least : RunsAlways Modulo (greatest ∷ least ∷ []) (gives (minus 1))
  pub least_by_greatest : RunsAlways Modulo (least ∷ greatest ∷ []) (gives (number (2 ^ 29 - 2)))
  pub least_by_least : RunsAlways Modulo (least ∷ least ∷ []) (gives (number 0))
  -- by zero
  pub by_zero : RunsAlways Modulo (number 5 ∷ number 0 ∷ []) (signals division_by_zero_class)
  pub zero_by_zero : RunsAlways Modulo (number 0 ∷ number 0 ∷ []) (signals division_by_zero_class)
  pub by_zero_fits : FitsCondition Modulo (number 5 ∷ number 0 ∷ []) division_by_zero_class
  pub integers : NeedsIntegers Modulo
