use Rattle.mid_examples.proofs.Streams.{stream_rows, put_char_rows, is_fresh_line_rows, get_byte_rows, peek_byte_rows}
use Rattle.mid_examples.proofs.worked.worked_streams.Goals as goal

pub returns-clause-stream_rows : goal.returns-clause-stream_rows
returns-clause-stream_rows c = stream_rows

pub returns-clause-put_char_rows : goal.returns-clause-put_char_rows
returns-clause-put_char_rows c = put_char_rows

pub returns-clause-is_fresh_line_rows : goal.returns-clause-is_fresh_line_rows
returns-clause-is_fresh_line_rows c = is_fresh_line_rows

pub returns-clause-get_byte_rows : goal.returns-clause-get_byte_rows
returns-clause-get_byte_rows c = get_byte_rows

pub returns-clause-peek_byte_rows : goal.returns-clause-peek_byte_rows
returns-clause-peek_byte_rows c = peek_byte_rows
