use Rattle.back_sought_exits.proofs.Called.{transferring_law}
use Rattle.back_sought_exits.proofs.laws.law_transferring.Goals as goal

pub returns : goal.returns
returns c = transferring_law
