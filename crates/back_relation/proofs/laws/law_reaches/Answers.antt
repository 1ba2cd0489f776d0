use Rattle.back_relation.proofs.Reaches.{reaches_law}
use Rattle.back_relation.proofs.laws.law_reaches.Goals as goal

pub returns : goal.returns
returns c = reaches_law
