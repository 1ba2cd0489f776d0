use Rattle.back_relation.proofs.Branches.{whole_whiles_law}
use Rattle.back_relation.proofs.laws.law_whole_whiles.Goals as goal

pub returns : goal.returns
returns c = whole_whiles_law
