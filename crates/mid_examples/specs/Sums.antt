-- Sums, differences and products of integers from -2 ^ 29 to 2 ^ 29 - 1.
use Rattle.std.specs.Prelude.{ℕ, ◌-◌, ◌^◌, [], ◌∷◌}
use Rattle.lang_meaning.specs.declared.primitive.Primitive.TheVariants.{Add, Subtract, Multiply}
use Rattle.lang_meaning.specs.Objects.{integer_overflow_class}
use Rattle.mid_examples.specs.Addresses.{number, minus}
use Rattle.mid_examples.specs.Rows.{gives, signals, RunsAlways, FitsCondition, NeedsIntegers}

abbrev pub greatest : ℕ
greatest = number (2 ^ 29 - 1)

abbrev pub least : ℕ
least = minus (2 ^ 29)

pub record AddRows : Type 0 where
  -- 2 + 3, 2 - 3, -2 - 3
  pub positive : RunsAlways Add (number 2 ∷ number 3 ∷ []) (gives (number 5))
  pub mixed : RunsAlways Add (number 2 ∷ minus 3 ∷ []) (gives (minus 1))
  pub negative : RunsAlways Add (minus 2 ∷ minus 3 ∷ []) (gives (minus 5))
  -- to zero from both sides
  pub to_zero : RunsAlways Add (number 3 ∷ minus 3 ∷ []) (gives (number 0))
  pub from_below : RunsAlways Add (minus 3 ∷ number 3 ∷ []) (gives (number 0))
  -- the ends of the range, reached and kept
  pub to_greatest : RunsAlways Add (number (2 ^ 29 - 2) ∷ number 1 ∷ []) (gives greatest)
  pub greatest_kept : RunsAlways Add (greatest ∷ number 0 ∷ []) (gives greatest)
  pub to_least : RunsAlways Add (minus (2 ^ 29 - 1) ∷ minus 1 ∷ []) (gives least)
  pub least_kept : RunsAlways Add (number 0 ∷ least ∷ []) (gives least)
  pub of_both_ends : RunsAlways Add (greatest ∷ least ∷ []) (gives (minus 1))
  -- one beyond, on either side and in either order
  pub above : RunsAlways Add (greatest ∷ number 1 ∷ []) (signals integer_overflow_class)
  pub above_in_front : RunsAlways Add (number 1 ∷ greatest ∷ []) (signals integer_overflow_class)
  pub below : RunsAlways Add (least ∷ minus 1 ∷ []) (signals integer_overflow_class)
  pub below_in_front : RunsAlways Add (minus 1 ∷ least ∷ []) (signals integer_overflow_class)
  -- as far beyond as can be; the sum of the words of twice the least comes to zero
  pub twice_greatest : RunsAlways Add (greatest ∷ greatest ∷ []) (signals integer_overflow_class)
  pub twice_least : RunsAlways Add (least ∷ least ∷ []) (signals integer_overflow_class)
  pub overflow_fits : FitsCondition Add (greatest ∷ number 1 ∷ []) integer_overflow_class
  pub integers : NeedsIntegers Add

pub record SubtractRows : Type 0 where
  -- 5 - 3, 3 - 5, 3 - -5, -3 - 5
  pub positive : RunsAlways Subtract (number 5 ∷ number 3 ∷ []) (gives (number 2))
  pub below_zero : RunsAlways Subtract (number 3 ∷ number 5 ∷ []) (gives (minus 2))
  pub of_negative : RunsAlways Subtract (number 3 ∷ minus 5 ∷ []) (gives (number 8))
  pub from_negative : RunsAlways Subtract (minus 3 ∷ number 5 ∷ []) (gives (minus 8))
  -- the ends of the range, reached and kept
  pub to_greatest : RunsAlways Subtract (minus 1 ∷ least ∷ []) (gives greatest)
  pub greatest_kept : RunsAlways Subtract (greatest ∷ number 0 ∷ []) (gives greatest)
  pub to_least : RunsAlways Subtract (minus 1 ∷ greatest ∷ []) (gives least)
  pub least_kept : RunsAlways Subtract (least ∷ number 0 ∷ []) (gives least)
  pub of_itself : RunsAlways Subtract (least ∷ least ∷ []) (gives (number 0))
  -- one beyond
  pub above : RunsAlways Subtract (greatest ∷ minus 1 ∷ []) (signals integer_overflow_class)
  pub of_least : RunsAlways Subtract (number 0 ∷ least ∷ []) (signals integer_overflow_class)
  pub below : RunsAlways Subtract (least ∷ number 1 ∷ []) (signals integer_overflow_class)
  pub of_greatest : RunsAlways Subtract (minus 2 ∷ greatest ∷ []) (signals integer_overflow_class)
  -- as far beyond as can be
  pub far_above : RunsAlways Subtract (greatest ∷ least ∷ []) (signals integer_overflow_class)
  pub far_below : RunsAlways Subtract (least ∷ greatest ∷ []) (signals integer_overflow_class)
  pub overflow_fits : FitsCondition Subtract (least ∷ number 1 ∷ []) integer_overflow_class
  pub integers : NeedsIntegers Subtract

pub record MultiplyRows : Type 0 where
  -- 6 * 7 with each signs
  pub positive : RunsAlways Multiply (number 6 ∷ number 7 ∷ []) (gives (number 42))
  pub first_negative : RunsAlways Multiply (minus 6 ∷ number 7 ∷ []) (gives (minus 42))
  pub second_negative : RunsAlways Multiply (number 6 ∷ minus 7 ∷ []) (gives (minus 42))
  pub both_negative : RunsAlways Multiply (minus 6 ∷ minus 7 ∷ []) (gives (number 42))
  pub by_zero : RunsAlways Multiply (least ∷ number 0 ∷ []) (gives (number 0))
  -- the ends of the range: 2 ^ 29 - 1 = 233 * 2304167, and -2 ^ 29 = -2 ^ 15 * 2 ^ 14
  pub to_greatest : RunsAlways Multiply (number 233 ∷ number 2304167 ∷ []) (gives greatest)
  pub greatest_kept : RunsAlways Multiply (greatest ∷ number 1 ∷ []) (gives greatest)
  pub greatest_turned : RunsAlways Multiply (greatest ∷ minus 1 ∷ []) (gives (minus (2 ^ 29 - 1)))
  pub to_least : RunsAlways Multiply (minus (2 ^ 15) ∷ number (2 ^ 14) ∷ []) (gives least)
  pub least_kept : RunsAlways Multiply (number 1 ∷ least ∷ []) (gives least)
  -- beyond: 2 ^ 29, in three ways, and -2 ^ 29 - 1 = -3 * 178956971
  pub above : RunsAlways Multiply (number (2 ^ 15) ∷ number (2 ^ 14) ∷ []) (signals integer_overflow_class)
  pub least_turned : RunsAlways Multiply (least ∷ minus 1 ∷ []) (signals integer_overflow_class)
  pub turned_by_least : RunsAlways Multiply (minus 1 ∷ least ∷ []) (signals integer_overflow_class)
  pub below : RunsAlways Multiply (minus 3 ∷ number 178956971 ∷ []) (signals integer_overflow_class)
  -- products whose lowest 30 bits are zero, and as far beyond as can be
  pub of_wraps : RunsAlways Multiply (number 65536 ∷ number 65536 ∷ []) (signals integer_overflow_class)
  pub of_half : RunsAlways Multiply (number (2 ^ 28) ∷ number 4 ∷ []) (signals integer_overflow_class)
  pub far_above : RunsAlways Multiply (least ∷ least ∷ []) (signals integer_overflow_class)
  pub far_below : RunsAlways Multiply (least ∷ greatest ∷ []) (signals integer_overflow_class)
  pub greatest_squared : RunsAlways Multiply (greatest ∷ greatest ∷ []) (signals integer_overflow_class)
  pub overflow_fits : FitsCondition Multiply (greatest ∷ number 2 ∷ []) integer_overflow_class
  pub integers : NeedsIntegers Multiply
