use Rattle.back_exits.proofs.AtOnce.{returns_at_once_law}
use Rattle.back_exits.proofs.laws.law_returns_at_once.Goals as goal

pub returns : goal.returns
returns c = returns_at_once_law
