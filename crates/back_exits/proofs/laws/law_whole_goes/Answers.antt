use Rattle.back_exits.proofs.WholeWays.{whole_goes_law}
use Rattle.back_exits.proofs.laws.law_whole_goes.Goals as goal

pub returns : goal.returns
returns c = whole_goes_law
