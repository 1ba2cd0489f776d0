use Rattle.back_sought_exits.proofs.Called.{returns_law}
use Rattle.back_sought_exits.proofs.laws.law_returns.Goals as goal

pub returns : goal.returns
returns c = returns_law
