-- The procedure, where there is one.
use Rattle.lang_reached.proofs.Looking.{marks_single}
use Rattle.lang_reached.proofs.reached.mark_initform.Goals as goal

pub returns-in_ok-mark_procedure-in-Some : goal.returns-in_ok-mark_procedure-in-Some
returns-in_ok-mark_procedure-in-Some c =
    rw (c.in-Some.is)
    (marks_single c.args.given.now.names.now c.args.given.now.program.now c.in-Some.procedure c.args.search.now
    c.mark_procedure.new.search c.in_ok-mark_procedure-in-Some.ensures)
