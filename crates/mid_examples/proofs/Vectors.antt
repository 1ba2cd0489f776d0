-- They compute.
use Rattle.std.proofs.Common.{refl}
use Rattle.base.specs.Arithmetic.{low_word}
use Rattle.mid_code.specs.State.{go_on, with_some, choose_by}
use Rattle.mid_code.specs.Meaning.{leaves, exec, exec_step, turns, levels}
use Rattle.mid_arena.specs.Steps.{hand_over, signal, domain_error, need_header}
use Rattle.mid_examples.specs.Vectors.{MakeVectorRows, VectorLengthRows, VectorRefRows, SetVectorRefRows}

pub make_vector_rows : MakeVectorRows
unfolding low_word go_on with_some choose_by leaves exec exec_step turns levels hand_over signal domain_error need_header
make_vector_rows = record {
  of_none = refl;
  of_one = refl;
  of_two = refl;
  of_three = refl;
  length_then = refl;
  last_then = refl;
  below = refl;
  far_below = refl;
  far_above = refl;
  length_refused = refl;
  none_fits = record { enough = refl; one_less = refl };
  two_fit = record { enough = refl; one_less = refl };
  length_fits = record { enough = refl; one_less = refl };
  below_fits = record { enough = refl; one_less = refl };
}

pub vector_length_rows : VectorLengthRows
unfolding low_word go_on with_some choose_by leaves exec exec_step turns levels hand_over signal domain_error need_header
vector_length_rows = record {
  of_none = refl;
  of_three = refl;
  refused = refl;
  fits = record { enough = refl; one_less = refl };
  header_fits = record { enough = refl; one_less = refl };
}

pub vector_ref_rows : VectorRefRows
unfolding low_word go_on with_some choose_by leaves exec exec_step turns levels hand_over signal domain_error need_header
vector_ref_rows = record {
  first = refl;
  second = refl;
  last = refl;
  below = refl;
  above = refl;
  of_none = refl;
  far_below = refl;
  far_above = refl;
  vector_refused = refl;
  index_refused = refl;
  first_of_two = refl;
  vector_fits = record { enough = refl; one_less = refl };
  index_fits = record { enough = refl; one_less = refl };
  above_fits = record { enough = refl; one_less = refl };
}

pub set_vector_ref_rows : SetVectorRefRows
unfolding low_word go_on with_some choose_by leaves exec exec_step turns levels hand_over signal domain_error need_header
set_vector_ref_rows = record {
  first = refl;
  second = refl;
  last = refl;
  then_read = refl;
  below = refl;
  above = refl;
  of_none = refl;
  far_below = refl;
  far_above = refl;
  vector_refused = refl;
  index_refused = refl;
  first_of_two = refl;
  vector_fits = record { enough = refl; one_less = refl };
  index_fits = record { enough = refl; one_less = refl };
  above_fits = record { enough = refl; one_less = refl };
}
