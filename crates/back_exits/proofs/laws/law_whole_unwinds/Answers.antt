use Rattle.back_exits.proofs.Unwinds.{whole_unwinds_law}
use Rattle.back_exits.proofs.laws.law_whole_unwinds.Goals as goal

pub returns : goal.returns
returns c = whole_unwinds_law
