use Rattle.back_calling.proofs.Inner.{returns_law}
use Rattle.back_calling.proofs.laws.law_returns.Goals as goal

pub returns : goal.returns
returns c = returns_law
