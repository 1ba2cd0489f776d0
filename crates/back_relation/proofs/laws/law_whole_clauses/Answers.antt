use Rattle.back_relation.proofs.Branches.{whole_clauses_law}
use Rattle.back_relation.proofs.laws.law_whole_clauses.Goals as goal

pub returns : goal.returns
returns c = whole_clauses_law
