-- They compute.
use Rattle.std.proofs.Common.{refl}
use Rattle.base.specs.Arithmetic.{low_word}
use Rattle.mid_code.specs.State.{go_on, with_some, choose_by}
use Rattle.mid_code.specs.Meaning.{leaves, exec, exec_step, turns, levels}
use Rattle.mid_arena.specs.Steps.{hand_over, signal, domain_error, need_header}
use Rattle.mid_examples.specs.Streams.{StreamRows, PutCharRows, IsFreshLineRows, GetByteRows, PeekByteRows}

pub stream_rows : StreamRows
unfolding low_word go_on with_some choose_by leaves exec exec_step turns levels hand_over signal domain_error need_header
stream_rows = record { standard_input = refl; standard_output = refl }

pub put_char_rows : PutCharRows
unfolding low_word go_on with_some choose_by leaves exec exec_step turns levels hand_over signal domain_error need_header
put_char_rows = record {
  of_a = refl;
  newline = refl;
  before_newline = refl;
  behind_newline = refl;
  of_first = refl;
  of_last = refl;
  after_newline = refl;
  newline_again = refl;
  to_input = refl;
  stream_refused = refl;
  character_refused = refl;
  first_of_two = refl;
  class_before_direction = refl;
  stream_fits = record { enough = refl; one_less = refl };
  character_fits = record { enough = refl; one_less = refl };
  input_fits = record { enough = refl; one_less = refl };
}

pub is_fresh_line_rows : IsFreshLineRows
unfolding low_word go_on with_some choose_by leaves exec exec_step turns levels hand_over signal domain_error need_header
is_fresh_line_rows = record { in_a_line = refl; after_newline = refl; after_a = refl; at_start = refl }

pub get_byte_rows : GetByteRows
unfolding low_word go_on with_some choose_by leaves exec exec_step turns levels hand_over signal domain_error need_header
get_byte_rows = record {
  first = refl;
  next = refl;
  at_end = refl;
  nothing = refl;
  of_first = refl;
  of_last = refl;
  looked_at = refl;
  last_looked_at = refl;
  first_looked_at = refl;
}

pub peek_byte_rows : PeekByteRows
unfolding low_word go_on with_some choose_by leaves exec exec_step turns levels hand_over signal domain_error need_header
peek_byte_rows = record {
  first = refl;
  again = refl;
  next = refl;
  last_again = refl;
  at_end = refl;
  nothing = refl;
  of_first = refl;
  of_last = refl;
}
