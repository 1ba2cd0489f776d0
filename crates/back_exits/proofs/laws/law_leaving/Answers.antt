use Rattle.back_exits.proofs.Combined.{leaving_law}
use Rattle.back_exits.proofs.laws.law_leaving.Goals as goal

pub returns : goal.returns
returns c = leaving_law
