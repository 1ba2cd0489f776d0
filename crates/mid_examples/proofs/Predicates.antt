-- They compute.
use Rattle.std.proofs.Common.{refl}
use Rattle.base.specs.Arithmetic.{low_word}
use Rattle.mid_code.specs.State.{go_on, with_some, choose_by}
use Rattle.mid_code.specs.Meaning.{leaves, exec, exec_step, turns, levels}
use Rattle.mid_arena.specs.Steps.{hand_over, signal, domain_error}
use Rattle.mid_examples.specs.Predicates.{SameRows, PredicateRows}

pub same_rows : SameRows
unfolding low_word go_on with_some choose_by leaves exec exec_step turns levels hand_over signal domain_error
same_rows = record {
  itself = refl;
  least_itself = refl;
  greatest_itself = refl;
  nil_first = refl;
  nil_second = refl;
  integers = refl;
  ends = refl;
  characters = refl;
  code = refl;
  lists = refl;
  bytes = refl;
  empty = refl;
  fresh_ones = refl;
  symbols = refl;
}

pub predicate_rows : PredicateRows
unfolding low_word go_on with_some choose_by leaves exec exec_step turns levels hand_over signal domain_error
predicate_rows = record {
  null = record { these = refl; others = refl };
  cons = record { these = refl; others = refl };
  integer = record { these = refl; others = refl };
  symbol = record { these = refl; others = refl };
  character = record { these = refl; others = refl };
  string = record { these = refl; others = refl };
  vector = record { these = refl; others = refl };
  function = record { these = refl; others = refl };
  generic = record { these = refl; others = refl };
  least_integer = refl;
  greatest_integer = refl;
  last_character = refl;
}
