-- They compute.
use Rattle.std.proofs.Common.{refl}
use Rattle.base.specs.Arithmetic.{low_word}
use Rattle.mid_code.specs.State.{go_on, with_some, choose_by}
use Rattle.mid_code.specs.Meaning.{leaves, exec, exec_step, turns, levels}
use Rattle.mid_arena.specs.Steps.{hand_over, signal, domain_error, need_header, class_by_header, class_of_object, class_word}
use Rattle.mid_examples.specs.Instances.{AllocateRows, SlotCountRows, SlotPlaceRows, SlotRefRows, SlotSetRows, SlotBoundRows, SlotInitargsRows, SlotInitformRows, ContinuableRows}

pub allocate_rows : AllocateRows
unfolding low_word go_on with_some choose_by leaves exec exec_step turns levels hand_over signal domain_error need_header class_by_header class_of_object class_word
allocate_rows = record {
  a_new_point = refl;
  a_new_dot = refl;
  a_new_mishap = refl;
  a_new_domain_error = refl;
  a_new_program_error = refl;
  then_not_continuable = refl;
  abstract_class = refl;
  of_conses = refl;
  of_objects = refl;
  of_standard_objects = refl;
  refused = refl;
  point_fits = record { enough = refl; one_less = refl };
  dot_fits = record { enough = refl; one_less = refl };
  mishap_fits = record { enough = refl; one_less = refl };
  program_error_fits = record { enough = refl; one_less = refl };
  abstract_fits = record { enough = refl; one_less = refl };
  error_fits = record { enough = refl; one_less = refl };
}

pub slot_count_rows : SlotCountRows
unfolding low_word go_on with_some choose_by leaves exec exec_step turns levels hand_over signal domain_error need_header class_by_header class_of_object class_word
slot_count_rows = record {
  of_point = refl;
  of_dot = refl;
  of_mishap = refl;
  of_error = refl;
  refused = refl;
  fits = record { enough = refl; one_less = refl };
  header_fits = record { enough = refl; one_less = refl };
}

pub slot_place_rows : SlotPlaceRows
unfolding low_word go_on with_some choose_by leaves exec exec_step turns levels hand_over signal domain_error need_header class_by_header class_of_object class_word
slot_place_rows = record {
  first = refl;
  last = refl;
  of_mishap = refl;
  of_error = refl;
  wanting = refl;
  of_others = refl;
  of_nil = refl;
  of_fresh = refl;
  without_slots = refl;
  instance_refused = refl;
  name_refused = refl;
  first_of_two = refl;
  instance_fits = record { enough = refl; one_less = refl };
  name_fits = record { enough = refl; one_less = refl };
  wanting_fits = record { enough = refl; one_less = refl };
}

pub slot_ref_rows : SlotRefRows
unfolding low_word go_on with_some choose_by leaves exec exec_step turns levels hand_over signal domain_error need_header class_by_header class_of_object class_word
slot_ref_rows = record {
  first = refl;
  of_mishap = refl;
  of_error = refl;
  last_of_error = refl;
  unbound = refl;
  unbound_fits = record { enough = refl; one_less = refl };
  place = record {
    below = refl;
    above = refl;
    far_below = refl;
    far_above = refl;
    of_dot = refl;
    of_mark = refl;
    instance_refused = refl;
    place_refused = refl;
    first_of_two = refl;
    instance_fits = record { enough = refl; one_less = refl };
    place_fits = record { enough = refl; one_less = refl };
    above_fits = record { enough = refl; one_less = refl };
  };
}

pub slot_set_rows : SlotSetRows
unfolding low_word go_on with_some choose_by leaves exec exec_step turns levels hand_over signal domain_error need_header class_by_header class_of_object class_word
slot_set_rows = record {
  first = refl;
  last = refl;
  of_mishap = refl;
  then_read = refl;
  then_bound = refl;
  below = refl;
  above = refl;
  far_below = refl;
  far_above = refl;
  of_dot = refl;
  of_mark = refl;
  instance_refused = refl;
  place_refused = refl;
  first_of_two = refl;
  instance_fits = record { enough = refl; one_less = refl };
  place_fits = record { enough = refl; one_less = refl };
  above_fits = record { enough = refl; one_less = refl };
}

pub slot_bound_rows : SlotBoundRows
unfolding low_word go_on with_some choose_by leaves exec exec_step turns levels hand_over signal domain_error need_header class_by_header class_of_object class_word
slot_bound_rows = record {
  first = refl;
  last = refl;
  of_mishap = refl;
  place = record {
    below = refl;
    above = refl;
    far_below = refl;
    far_above = refl;
    of_dot = refl;
    of_mark = refl;
    instance_refused = refl;
    place_refused = refl;
    first_of_two = refl;
    instance_fits = record { enough = refl; one_less = refl };
    place_fits = record { enough = refl; one_less = refl };
    above_fits = record { enough = refl; one_less = refl };
  };
}

pub slot_initargs_rows : SlotInitargsRows
unfolding low_word go_on with_some choose_by leaves exec exec_step turns levels hand_over signal domain_error need_header class_by_header class_of_object class_word
slot_initargs_rows = record {
  first = refl;
  last = refl;
  of_mishap = refl;
  place = record {
    below = refl;
    above = refl;
    far_below = refl;
    far_above = refl;
    of_dot = refl;
    of_mark = refl;
    instance_refused = refl;
    place_refused = refl;
    first_of_two = refl;
    instance_fits = record { enough = refl; one_less = refl };
    place_fits = record { enough = refl; one_less = refl };
    above_fits = record { enough = refl; one_less = refl };
  };
}

pub slot_initform_rows : SlotInitformRows
unfolding low_word go_on with_some choose_by leaves exec exec_step turns levels hand_over signal domain_error need_header class_by_header class_of_object class_word
slot_initform_rows = record {
  first = refl;
  last = refl;
  of_mishap = refl;
  place = record {
    below = refl;
    above = refl;
    far_below = refl;
    far_above = refl;
    of_dot = refl;
    of_mark = refl;
    instance_refused = refl;
    place_refused = refl;
    first_of_two = refl;
    instance_fits = record { enough = refl; one_less = refl };
    place_fits = record { enough = refl; one_less = refl };
    above_fits = record { enough = refl; one_less = refl };
  };
}

pub continuable_rows : ContinuableRows
unfolding low_word go_on with_some choose_by leaves exec exec_step turns levels hand_over signal domain_error need_header class_by_header class_of_object class_word
continuable_rows = record {
  of_mishap = refl;
  of_error = refl;
  of_point = refl;
  of_dot = refl;
  of_class = refl;
  refused = refl;
  fits = record { enough = refl; one_less = refl };
  header_fits = record { enough = refl; one_less = refl };
  point_fits = record { enough = refl; one_less = refl };
}
