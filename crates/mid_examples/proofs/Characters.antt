-- They compute.
use Rattle.std.proofs.Common.{refl}
use Rattle.base.specs.Arithmetic.{low_word}
use Rattle.mid_code.specs.State.{go_on, with_some, choose_by}
use Rattle.mid_code.specs.Meaning.{leaves, exec, exec_step, turns, levels}
use Rattle.mid_arena.specs.Steps.{hand_over, signal, domain_error}
use Rattle.mid_examples.specs.Characters.{CharCodeRows, CodeCharRows}

pub char_code_rows : CharCodeRows
unfolding low_word go_on with_some choose_by leaves exec exec_step turns levels hand_over signal domain_error
char_code_rows = record {
  of_a = refl;
  of_first = refl;
  of_last = refl;
  refused = refl;
  fits = record { enough = refl; one_less = refl };
}

pub code_char_rows : CodeCharRows
unfolding low_word go_on with_some choose_by leaves exec exec_step turns levels hand_over signal domain_error
code_char_rows = record {
  to_a = refl;
  to_first = refl;
  to_last = refl;
  below = refl;
  above = refl;
  far_below = refl;
  far_above = refl;
  refused = refl;
  fits = record { enough = refl; one_less = refl };
  above_fits = record { enough = refl; one_less = refl };
}
