-- They compute.
use Rattle.std.proofs.Common.{refl}
use Rattle.base.specs.Arithmetic.{low_word}
use Rattle.mid_code.specs.State.{go_on, with_some, choose_by}
use Rattle.mid_code.specs.Meaning.{leaves, exec, exec_step, turns, levels}
use Rattle.mid_arena.specs.Steps.{hand_over, signal, domain_error, need_header}
use Rattle.mid_examples.specs.Strings.{MakeStringRows, StringLengthRows, CharAtRows, SetCharAtRows}

pub make_string_rows : MakeStringRows
unfolding low_word go_on with_some choose_by leaves exec exec_step turns levels hand_over signal domain_error need_header
make_string_rows = record {
  of_none = refl;
  of_one = refl;
  of_two = refl;
  of_three = refl;
  of_four = refl;
  of_five = refl;
  of_eight = refl;
  of_first = refl;
  of_last = refl;
  length_then = refl;
  last_then = refl;
  below = refl;
  far_below = refl;
  far_above = refl;
  length_refused = refl;
  character_refused = refl;
  first_of_two = refl;
  class_before_range = refl;
  none_fits = record { enough = refl; one_less = refl };
  four_fits = record { enough = refl; one_less = refl };
  five_fits = record { enough = refl; one_less = refl };
  length_fits = record { enough = refl; one_less = refl };
  character_fits = record { enough = refl; one_less = refl };
  below_fits = record { enough = refl; one_less = refl };
}

pub string_length_rows : StringLengthRows
unfolding low_word go_on with_some choose_by leaves exec exec_step turns levels hand_over signal domain_error need_header
string_length_rows = record {
  of_none = refl;
  of_three = refl;
  of_four = refl;
  of_five = refl;
  symbol_refused = refl;
  refused = refl;
  fits = record { enough = refl; one_less = refl };
  header_fits = record { enough = refl; one_less = refl };
}

pub char_at_rows : CharAtRows
unfolding low_word go_on with_some choose_by leaves exec exec_step turns levels hand_over signal domain_error need_header
char_at_rows = record {
  first = refl;
  second = refl;
  third = refl;
  fourth = refl;
  last = refl;
  last_of_three = refl;
  last_of_four = refl;
  below = refl;
  above = refl;
  above_three = refl;
  above_four = refl;
  of_none = refl;
  far_below = refl;
  far_above = refl;
  string_refused = refl;
  index_refused = refl;
  first_of_two = refl;
  string_fits = record { enough = refl; one_less = refl };
  index_fits = record { enough = refl; one_less = refl };
  above_fits = record { enough = refl; one_less = refl };
}

pub set_char_at_rows : SetCharAtRows
unfolding low_word go_on with_some choose_by leaves exec exec_step turns levels hand_over signal domain_error need_header
set_char_at_rows = record {
  first = refl;
  second = refl;
  third = refl;
  fourth = refl;
  last = refl;
  to_first = refl;
  to_last = refl;
  to_last_of_three = refl;
  then_read = refl;
  below = refl;
  above = refl;
  above_four = refl;
  of_none = refl;
  far_below = refl;
  far_above = refl;
  character_refused = refl;
  string_refused = refl;
  index_refused = refl;
  first_of_three = refl;
  second_of_two = refl;
  character_fits = record { enough = refl; one_less = refl };
  string_fits = record { enough = refl; one_less = refl };
  index_fits = record { enough = refl; one_less = refl };
  above_fits = record { enough = refl; one_less = refl };
}
