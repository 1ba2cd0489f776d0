-- Why there is no program of the call.
use Rattle.std.proofs.lemmas.Result.{err_from_is_err_and}
use Rattle.top_expansion.proofs.Calls.{of_program}
use Rattle.top_expansion.proofs.expander.ExpanderExpanding.expand.Goals as goal

pub returns-in_err-program-clause-stops : goal.returns-in_err-program-clause-stops
returns-in_err-program-clause-stops c =
    let p = err_from_is_err_and c.from_residual.result c.from_residual.ensures.1 in
    rw (p.1, p.2) (of_program c.args.names.now c.args.call.now c.in_err-program.field-0.0 c.in_err-program.ensures.stops)
