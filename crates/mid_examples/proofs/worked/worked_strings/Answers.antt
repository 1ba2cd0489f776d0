use Rattle.mid_examples.proofs.Characters.{char_code_rows, code_char_rows}
use Rattle.mid_examples.proofs.Strings.{make_string_rows, string_length_rows, char_at_rows, set_char_at_rows}
use Rattle.mid_examples.proofs.worked.worked_strings.Goals as goal

pub returns-clause-char_code_rows : goal.returns-clause-char_code_rows
returns-clause-char_code_rows c = char_code_rows

pub returns-clause-code_char_rows : goal.returns-clause-code_char_rows
returns-clause-code_char_rows c = code_char_rows

pub returns-clause-make_string_rows : goal.returns-clause-make_string_rows
returns-clause-make_string_rows c = make_string_rows

pub returns-clause-string_length_rows : goal.returns-clause-string_length_rows
returns-clause-string_length_rows c = string_length_rows

pub returns-clause-char_at_rows : goal.returns-clause-char_at_rows
returns-clause-char_at_rows c = char_at_rows

pub returns-clause-set_char_at_rows : goal.returns-clause-set_char_at_rows
returns-clause-set_char_at_rows c = set_char_at_rows
