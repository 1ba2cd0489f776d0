-- The class stands behind.
use Rattle.lang_classes.proofs.Cutting.{rows_back, own_back}
use Rattle.lang_classes.proofs.laws.law_cut.Goals as goal

pub returns-clause-rows : goal.returns-clause-rows
returns-clause-rows c = rows_back

pub returns-clause-own : goal.returns-clause-own
returns-clause-own c = own_back
