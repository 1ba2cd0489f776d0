-- They compute.
use Rattle.std.proofs.Common.{refl}
use Rattle.base.specs.Arithmetic.{low_word}
use Rattle.mid_code.specs.State.{go_on, with_some, choose_by}
use Rattle.mid_code.specs.Meaning.{leaves, exec, exec_step, turns, levels}
use Rattle.mid_arena.specs.Steps.{hand_over, signal, domain_error, need_header}
use Rattle.mid_examples.specs.Symbols.{SymbolNameRows, SymbolSerialRows, GensymRows}

pub symbol_name_rows : SymbolNameRows
unfolding low_word go_on with_some choose_by leaves exec exec_step turns levels hand_over signal domain_error need_header
symbol_name_rows = record {
  of_x = refl;
  of_abcd = refl;
  of_point = refl;
  of_cons = refl;
  of_nil = refl;
  of_t = refl;
  of_empty = refl;
  of_fresh = refl;
  of_expanded = refl;
  refused = refl;
  point_fits = record { enough = refl; one_less = refl };
  nil_fits = record { enough = refl; one_less = refl };
  fresh_fits = record { enough = refl; one_less = refl };
  error_fits = record { enough = refl; one_less = refl };
}

pub symbol_serial_rows : SymbolSerialRows
unfolding low_word go_on with_some choose_by leaves exec exec_step turns levels hand_over signal domain_error need_header
symbol_serial_rows = record {
  of_fresh = refl;
  of_expanded = refl;
  of_x = refl;
  of_empty = refl;
  of_nil = refl;
  refused = refl;
  fits = record { enough = refl; one_less = refl };
}

pub gensym_rows : GensymRows
unfolding low_word go_on with_some choose_by leaves exec exec_step turns levels hand_over signal domain_error need_header
gensym_rows = record {
  next = refl;
  one_more = refl;
  first = refl;
  last = refl;
  serial_then = refl;
  enough = refl;
  one_less = refl;
}
