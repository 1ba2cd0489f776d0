-- They compute.
use Rattle.std.proofs.Common.{refl}
use Rattle.base.specs.Arithmetic.{low_word, high_signed, quotient_signed, remainder_signed}
use Rattle.mid_code.specs.State.{go_on, with_some, choose_by}
use Rattle.mid_code.specs.Meaning.{leaves, exec, exec_step, turns, levels}
use Rattle.mid_arena.specs.Steps.{hand_over, signal, domain_error}
use Rattle.mid_examples.specs.Quotients.{DivideRows, ModuloRows}

pub divide_rows : DivideRows
unfolding low_word go_on with_some choose_by leaves exec exec_step turns levels hand_over signal domain_error high_signed quotient_signed remainder_signed
divide_rows = record {
  positive = refl;
  first_negative = refl;
  second_negative = refl;
  both_negative = refl;
  whole = refl;
  whole_first_negative = refl;
  whole_second_negative = refl;
  whole_both_negative = refl;
  of_zero = refl;
  below_one = refl;
  below_zero = refl;
  below_zero_by_negative = refl;
  above_zero_by_negative = refl;
  by_greatest = refl;
  by_least = refl;
  least_by_greatest = refl;
  greatest_by_least = refl;
  least_by_least = refl;
  greatest_kept = refl;
  least_kept = refl;
  greatest_turned = refl;
  to_greatest = refl;
  half_of_least = refl;
  least_turned = refl;
  overflow_fits = record { enough = refl; one_less = refl };
  by_zero = refl;
  zero_by_zero = refl;
  least_by_zero = refl;
  by_zero_fits = record { enough = refl; one_less = refl };
  integers = record {
    first = refl;
    second = refl;
    first_of_two = refl;
    before_zero = refl;
    first_fits = record { enough = refl; one_less = refl };
    second_fits = record { enough = refl; one_less = refl };
  };
}

pub modulo_rows : ModuloRows
unfolding low_word go_on with_some choose_by leaves exec exec_step turns levels hand_over signal domain_error high_signed quotient_signed remainder_signed
modulo_rows = record {
  positive = refl;
  first_negative = refl;
  second_negative = refl;
  both_negative = refl;
  six_by_four = refl;
  minus_six_by_four = refl;
  six_by_minus_four = refl;
  minus_seven_by_five = refl;
  seven_by_minus_five = refl;
  whole = refl;
  whole_by_negative = refl;
  of_zero = refl;
  by_one = refl;
  least_by_minus_one = refl;
  by_greatest = refl;
  by_least = refl;
  greatest_by_least = refl;
  least_by_greatest = refl;
  least_by_least = refl;
  by_zero = refl;
  zero_by_zero = refl;
  by_zero_fits = record { enough = refl; one_less = refl };
  integers = record {
    first = refl;
    second = refl;
    first_of_two = refl;
    before_zero = refl;
    first_fits = record { enough = refl; one_less = refl };
    second_fits = record { enough = refl; one_less = refl };
  };
}
