-- They compute.
use Rattle.std.proofs.Common.{refl}
use Rattle.base.specs.Arithmetic.{low_word}
use Rattle.mid_code.specs.State.{go_on, with_some, choose_by}
use Rattle.mid_code.specs.Meaning.{leaves, exec, exec_step, turns, levels}
use Rattle.mid_arena.specs.Steps.{hand_over, signal, domain_error, need_header, class_by_header, class_of_object, class_word}
use Rattle.mid_examples.specs.Classes.{ClassOfRows, ClassNameRows, IsSubclassRows, IsInstanceRows}

pub class_of_rows : ClassOfRows
unfolding low_word go_on with_some choose_by leaves exec exec_step turns levels hand_over signal domain_error need_header class_by_header class_of_object class_word
class_of_rows = record {
  of_integers = refl;
  of_least = refl;
  of_greatest = refl;
  of_characters = refl;
  of_last_character = refl;
  of_nil = refl;
  of_x = refl;
  of_empty = refl;
  of_fresh = refl;
  of_expanded = refl;
  of_conses = refl;
  of_strings = refl;
  of_vectors = refl;
  of_function = refl;
  of_generic = refl;
  of_streams = refl;
  of_first_class = refl;
  of_conses_class = refl;
  of_last_built_in = refl;
  of_first_standard = refl;
  of_domain_errors = refl;
  of_points = refl;
  of_mishaps = refl;
  of_a_point = refl;
  of_a_dot = refl;
  of_a_mishap = refl;
  of_an_error = refl;
}

pub class_name_rows : ClassNameRows
unfolding low_word go_on with_some choose_by leaves exec exec_step turns levels hand_over signal domain_error need_header class_by_header class_of_object class_word
class_name_rows = record {
  of_conses = refl;
  of_points = refl;
  of_mishaps = refl;
  refused = refl;
  fits = record { enough = refl; one_less = refl };
  header_fits = record { enough = refl; one_less = refl };
}

pub is_subclass_rows : IsSubclassRows
unfolding low_word go_on with_some choose_by leaves exec exec_step turns levels hand_over signal domain_error need_header class_by_header class_of_object class_word
is_subclass_rows = record {
  of_itself = refl;
  of_first_itself = refl;
  of_own_itself = refl;
  below = refl;
  above = refl;
  null_symbol = refl;
  null_list = refl;
  symbol_list = refl;
  generic_function = refl;
  top = refl;
  top_below = refl;
  dots_shapes = refl;
  shapes_dots = refl;
  points_standard = refl;
  points_shapes = refl;
  mishaps_serious = refl;
  mishaps_standard = refl;
  domain_program = refl;
  first_refused = refl;
  second_refused = refl;
  first_of_two = refl;
  first_fits = record { enough = refl; one_less = refl };
  second_fits = record { enough = refl; one_less = refl };
}

pub is_instance_rows : IsInstanceRows
unfolding low_word go_on with_some choose_by leaves exec exec_step turns levels hand_over signal domain_error need_header class_by_header class_of_object class_word
is_instance_rows = record {
  of_integers = refl;
  of_characters = refl;
  of_nulls = refl;
  of_conses = refl;
  of_symbols = refl;
  of_strings = refl;
  of_vectors = refl;
  of_functions = refl;
  of_streams = refl;
  of_built_in = refl;
  of_standard = refl;
  of_points = refl;
  cons_list = refl;
  nil_list = refl;
  nil_symbol = refl;
  generic_function = refl;
  dot_shape = refl;
  mishap_serious = refl;
  error_top = refl;
  integer_top = refl;
  integer_character = refl;
  nil_cons = refl;
  symbol_null = refl;
  function_generic = refl;
  built_in_standard = refl;
  point_shape = refl;
  point_serious = refl;
  class_itself = refl;
  class_refused = refl;
  fits = record { enough = refl; one_less = refl };
}
