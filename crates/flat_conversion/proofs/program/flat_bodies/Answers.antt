-- The procedures take the first binders, and the main forms those behind.
use Rattle.flat_conversion.proofs.Whole.{bodies_made}
use Rattle.flat_conversion.proofs.program.flat_bodies.Goals as goal

pub returns : goal.returns
returns c =
    bodies_made c.args.rows.now c.args.binders.now c.new.result c.flat_procedures.new.progress c.flat_mains-main.new.progress c.in_ok-procedures.procedures c.in-Ok.main
    c.new.ensures c.requires c.in_ok-procedures.ensures.1 c.in-Ok.ensures
