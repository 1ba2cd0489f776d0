use Rattle.back_exits.proofs.WaysToExits.{goes_law}
use Rattle.back_exits.proofs.laws.law_goes.Goals as goal

pub returns : goal.returns
returns c = goes_law
