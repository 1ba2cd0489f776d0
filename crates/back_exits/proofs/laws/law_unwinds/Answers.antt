use Rattle.back_exits.proofs.Unwinds.{unwinds_law}
use Rattle.back_exits.proofs.laws.law_unwinds.Goals as goal

pub returns : goal.returns
returns c = unwinds_law
