use Rattle.back_exits.proofs.WholeWays.{whole_returns_law}
use Rattle.back_exits.proofs.laws.law_whole_returns.Goals as goal

pub returns : goal.returns
returns c = whole_returns_law
