-- The tables have the functions of names; and the program is lowered.
use Rattle.std.proofs.Common.{ap, Err}
use Rattle.back_lowered.proofs.Tabled.{functions_tabled}
use Rattle.back_lowered.proofs.Told.{told_of_own}
use Rattle.back_lowered.proofs.lowering.lower.Goals as goal

pub lay_program-requires-clause-functions : goal.lay_program-requires-clause-functions
lay_program-requires-clause-functions c = functions_tabled c.args.names.now c.args.program.now c.in_ok-tables.tables c.in_ok-tables.ensures

pub returns-in_err-words-clause-too_large : goal.returns-in_err-words-clause-too_large
returns-in_err-words-clause-too_large c = λ e.
    c.in_err-words.ensures.too_large
    (ap Err (told_of_own c.in_err-words.field-0.0 c.from_residual-in_err-words.result c.from_residual-in_err-words.ensures.1 e))
