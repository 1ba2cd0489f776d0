-- A file that is too long is refused at its begin; else the program is judged under the table of names that is left.
use Rattle.std.proofs.Common.{rules}
use Rattle.front_files.proofs.Both.{too_long_refused, no_program}
use Rattle.front_files.proofs.program.read_program_with.Goals as goal

pub returns-then-text-gt-LONGEST_TEXT-clause-stops :
    goal.returns-then-text-gt-LONGEST_TEXT-clause-stops
returns-then-text-gt-LONGEST_TEXT-clause-stops g c = too_long_refused c.args.prelude.now c.args.text.now c.args.mode (search rules)

pub returns-in-Err-clause-stops : goal.returns-in-Err-clause-stops
returns-in-Err-clause-stops g c =
    no_program c.program_of-judged.new.names c.args.prelude.now c.args.text.now c.args.mode c.in-Err.stop c.len.ensures.table c.in-Err.ensures.stops
