-- They compute.
use Rattle.std.proofs.Common.{refl}
use Rattle.base.specs.Arithmetic.{low_word}
use Rattle.mid_code.specs.State.{go_on, with_some, choose_by}
use Rattle.mid_code.specs.Meaning.{leaves, exec, exec_step, turns, levels}
use Rattle.mid_arena.specs.Steps.{hand_over, signal, domain_error}
use Rattle.mid_examples.specs.Conses.{ConsRows, PartRows, SetPartRows}

pub cons_rows : ConsRows
unfolding low_word go_on with_some choose_by leaves exec exec_step turns levels hand_over signal domain_error
cons_rows = record {
  of_integer = refl;
  of_object = refl;
  of_character = refl;
  fits = record { enough = refl; one_less = refl };
  car = refl;
  cdr = refl;
}

pub part_rows : PartRows
unfolding low_word go_on with_some choose_by leaves exec exec_step turns levels hand_over signal domain_error
part_rows = record {
  car = refl;
  cdr = refl;
  last_car = refl;
  last_cdr = refl;
  car_refused = refl;
  cdr_refused = refl;
  car_fits = record { enough = refl; one_less = refl };
  cdr_fits = record { enough = refl; one_less = refl };
}

pub set_part_rows : SetPartRows
unfolding low_word go_on with_some choose_by leaves exec exec_step turns levels hand_over signal domain_error
set_part_rows = record {
  car = refl;
  cdr = refl;
  car_to_nil = refl;
  cdr_to_itself = refl;
  car_then = refl;
  cdr_then = refl;
  car_refused = refl;
  cdr_refused = refl;
  car_fits = record { enough = refl; one_less = refl };
  cdr_fits = record { enough = refl; one_less = refl };
}
