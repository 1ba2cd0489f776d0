-- A datum makes its objects.
use Rattle.eval_store.proofs.literals.lay_literal.Goals as goal

pub returns-in-Datum : goal.returns-in-Datum
returns-in-Datum c = rw c.in-Datum.is c.lay_datum.ensures
