use Rattle.back_relation.proofs.Levels.{whiles_law}
use Rattle.back_relation.proofs.laws.law_whiles.Goals as goal

pub returns : goal.returns
returns c = whiles_law
