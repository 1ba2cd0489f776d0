-- What the tests of all rows tell.
use Rattle.front_names.proofs.Told.{rows_told}
use Rattle.front_names.proofs.rows.are_names_below.Goals as goal

pub returns : goal.returns
returns c =
    rows_told c.args.count c.are_rows_below.result c.rows.result.now c.args.program.now
    c.rows.ensures.same c.are_rows_below.ensures
