use Rattle.mid_examples.proofs.Predicates.{same_rows, predicate_rows}
use Rattle.mid_examples.proofs.worked.worked_predicates.Goals as goal

pub returns-clause-same_rows : goal.returns-clause-same_rows
returns-clause-same_rows c = same_rows

pub returns-clause-predicate_rows : goal.returns-clause-predicate_rows
returns-clause-predicate_rows c = predicate_rows
