use Rattle.back_relation.proofs.Clauses.{clauses_law}
use Rattle.back_relation.proofs.laws.law_clauses.Goals as goal

pub returns : goal.returns
returns c = clauses_law
