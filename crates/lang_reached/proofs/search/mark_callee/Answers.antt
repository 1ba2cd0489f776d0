-- A procedure brings itself, and a generic function its methods.
use Rattle.lang_reached.proofs.search.mark_callee.Goals as goal

pub returns-in-Procedure : goal.returns-in-Procedure
returns-in-Procedure c = rw (c.in-Procedure.is) c.mark_procedure.ensures

pub returns-in-Generic : goal.returns-in-Generic
returns-in-Generic c = rw (c.in-Generic.is) c.mark_generic.ensures
