use Rattle.back_levels.proofs.Beginning.{beginnings_law}
use Rattle.back_levels.proofs.laws.law_beginnings.Goals as goal

pub returns : goal.returns
returns c = beginnings_law
