use Rattle.back_exits.proofs.Returns.{returns_by_transfer_law}
use Rattle.back_exits.proofs.laws.law_returns_by_transfer.Goals as goal

pub returns : goal.returns
returns c = returns_by_transfer_law
