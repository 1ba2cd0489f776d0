-- They compute.
use Rattle.std.proofs.Common.{refl}
use Rattle.base.specs.Arithmetic.{low_word, high_signed, shift_right_signed}
use Rattle.mid_code.specs.State.{go_on, with_some, choose_by}
use Rattle.mid_code.specs.Meaning.{leaves, exec, exec_step, turns, levels}
use Rattle.mid_arena.specs.Steps.{hand_over, signal, domain_error}
use Rattle.mid_examples.specs.Sums.{AddRows, SubtractRows, MultiplyRows}

pub add_rows : AddRows
unfolding low_word go_on with_some choose_by leaves exec exec_step turns levels hand_over signal domain_error high_signed shift_right_signed
add_rows = record {
  positive = refl;
  mixed = refl;
  negative = refl;
  to_zero = refl;
  from_below = refl;
  to_greatest = refl;
  greatest_kept = refl;
  to_least = refl;
  least_kept = refl;
  of_both_ends = refl;
  above = refl;
  above_in_front = refl;
  below = refl;
  below_in_front = refl;
  twice_greatest = refl;
  twice_least = refl;
  overflow_fits = record { enough = refl; one_less = refl };
  integers = record {
    first = refl;
    second = refl;
    first_of_two = refl;
    before_zero = refl;
    first_fits = record { enough = refl; one_less = refl };
    second_fits = record { enough = refl; one_less = refl };
  };
}

pub subtract_rows : SubtractRows
unfolding low_word go_on with_some choose_by leaves exec exec_step turns levels hand_over signal domain_error high_signed shift_right_signed
subtract_rows = record {
  positive = refl;
  below_zero = refl;
  of_negative = refl;
  from_negative = refl;
  to_greatest = refl;
  greatest_kept = refl;
  to_least = refl;
  least_kept = refl;
  of_itself = refl;
  above = refl;
  of_least = refl;
  below = refl;
  of_greatest = refl;
  far_above = refl;
  far_below = refl;
  overflow_fits = record { enough = refl; one_less = refl };
  integers = record {
    first = refl;
    second = refl;
    first_of_two = refl;
    before_zero = refl;
    first_fits = record { enough = refl; one_less = refl };
    second_fits = record { enough = refl; one_less = refl };
  };
}

pub multiply_rows : MultiplyRows
unfolding low_word go_on with_some choose_by leaves exec exec_step turns levels hand_over signal domain_error high_signed shift_right_signed
multiply_rows = record {
  positive = refl;
  first_negative = refl;
  second_negative = refl;
  both_negative = refl;
  by_zero = refl;
  to_greatest = refl;
  greatest_kept = refl;
  greatest_turned = refl;
  to_least = refl;
  least_kept = refl;
  above = refl;
  least_turned = refl;
  turned_by_least = refl;
  below = refl;
  of_wraps = refl;
  of_half = refl;
  far_above = refl;
  far_below = refl;
  greatest_squared = refl;
  overflow_fits = record { enough = refl; one_less = refl };
  integers = record {
    first = refl;
    second = refl;
    first_of_two = refl;
    before_zero = refl;
    first_fits = record { enough = refl; one_less = refl };
    second_fits = record { enough = refl; one_less = refl };
  };
}
