use Rattle.back_relation.proofs.Walks.{walks_law}
use Rattle.back_relation.proofs.laws.law_walks.Goals as goal

pub returns : goal.returns
returns c = walks_law
