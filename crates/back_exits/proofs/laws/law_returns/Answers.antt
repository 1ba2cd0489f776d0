use Rattle.back_exits.proofs.WaysToExits.{returns_law}
use Rattle.back_exits.proofs.laws.law_returns.Goals as goal

pub returns : goal.returns
returns c = returns_law
