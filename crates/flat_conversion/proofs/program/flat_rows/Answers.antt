-- Field by field it is the program made flat.
use Rattle.flat_conversion.proofs.Whole.{same_program}
use Rattle.flat_conversion.proofs.program.flat_rows.Goals as goal

pub returns : goal.returns
returns c =
    let bodies = c.in_ok-procedures.ensures in
    same_program c.args.rows.now _ c.in_ok-literals.ensures bodies.procedures bodies.lambdas
    c.in_ok-classes.ensures c.in_ok-generics.ensures c.in_ok-functions.ensures bodies.main c.in_ok-sites.ensures
