use Rattle.back_sought_exits.proofs.Leaving.{returns_to_captured_law}
use Rattle.back_sought_exits.proofs.laws.law_returns_to_captured.Goals as goal

pub returns : goal.returns
returns c = returns_to_captured_law
