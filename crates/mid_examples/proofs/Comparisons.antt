-- They compute.
use Rattle.std.proofs.Common.{refl}
use Rattle.base.specs.Arithmetic.{low_word}
use Rattle.mid_code.specs.State.{go_on, with_some, choose_by}
use Rattle.mid_code.specs.Meaning.{leaves, exec, exec_step, turns, levels}
use Rattle.mid_arena.specs.Steps.{hand_over, signal, domain_error}
use Rattle.mid_examples.specs.Comparisons.{ComparisonRows}

pub comparison_rows : ComparisonRows
unfolding low_word go_on with_some choose_by leaves exec exec_step turns levels hand_over signal domain_error
comparison_rows = record {
  equal = record {
    rises = refl;
    is_level = refl;
    falls = refl;
    integers = record {
      first = refl;
      second = refl;
      first_of_two = refl;
      before_zero = refl;
      first_fits = record { enough = refl; one_less = refl };
      second_fits = record { enough = refl; one_less = refl };
    };
  };
  not_equal = record {
    rises = refl;
    is_level = refl;
    falls = refl;
    integers = record {
      first = refl;
      second = refl;
      first_of_two = refl;
      before_zero = refl;
      first_fits = record { enough = refl; one_less = refl };
      second_fits = record { enough = refl; one_less = refl };
    };
  };
  less = record {
    rises = refl;
    is_level = refl;
    falls = refl;
    integers = record {
      first = refl;
      second = refl;
      first_of_two = refl;
      before_zero = refl;
      first_fits = record { enough = refl; one_less = refl };
      second_fits = record { enough = refl; one_less = refl };
    };
  };
  at_most = record {
    rises = refl;
    is_level = refl;
    falls = refl;
    integers = record {
      first = refl;
      second = refl;
      first_of_two = refl;
      before_zero = refl;
      first_fits = record { enough = refl; one_less = refl };
      second_fits = record { enough = refl; one_less = refl };
    };
  };
  greater = record {
    rises = refl;
    is_level = refl;
    falls = refl;
    integers = record {
      first = refl;
      second = refl;
      first_of_two = refl;
      before_zero = refl;
      first_fits = record { enough = refl; one_less = refl };
      second_fits = record { enough = refl; one_less = refl };
    };
  };
  at_least = record {
    rises = refl;
    is_level = refl;
    falls = refl;
    integers = record {
      first = refl;
      second = refl;
      first_of_two = refl;
      before_zero = refl;
      first_fits = record { enough = refl; one_less = refl };
      second_fits = record { enough = refl; one_less = refl };
    };
  };
}
