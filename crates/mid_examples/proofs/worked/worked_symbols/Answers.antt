use Rattle.mid_examples.proofs.Symbols.{symbol_name_rows, symbol_serial_rows, gensym_rows}
use Rattle.mid_examples.proofs.worked.worked_symbols.Goals as goal

pub returns-clause-symbol_name_rows : goal.returns-clause-symbol_name_rows
returns-clause-symbol_name_rows c = symbol_name_rows

pub returns-clause-symbol_serial_rows : goal.returns-clause-symbol_serial_rows
returns-clause-symbol_serial_rows c = symbol_serial_rows

pub returns-clause-gensym_rows : goal.returns-clause-gensym_rows
returns-clause-gensym_rows c = gensym_rows
